-- The program's own command, with no command below it yet.
use Rattle.std.specs.Prelude.{codes, true}
use Rattle.clap.specs.Words.{App, new_app}
use Rattle.clap.specs.Simple.{on_top}

abbrev pub bare_program : App
bare_program = on_top (λ s. record s { has_version = true; subcommand_required = true; arg_required_else_help = true }) (new_app (codes "exhash"))
