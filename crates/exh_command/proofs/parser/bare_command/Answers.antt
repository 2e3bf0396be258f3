use Rattle.std.proofs.Common.{◌∙◌, ap}
use Rattle.clap.specs.Simple.{app_of_fields}
use Rattle.clap.specs.declared.builder.command.Command.{Command}
use Rattle.clap.specs.declared.builder.command.Command.TheOpen.{Command-F}
use Rattle.exh_command.proofs.parser.bare_command.Goals as goal

pub returns-clause-own : goal.returns-clause-own
returns-clause-own c =
    let globals = λ (fields : Command-F Command). fields.has_globals in
    ap globals c.after_help.ensures ∙ ap globals c.override_usage.ensures ∙ ap globals c.about.ensures ∙ c.new.ensures.local

pub returns-clause-is : goal.returns-clause-is
returns-clause-is c = ap app_of_fields c.after_help.ensures ∙ ap app_of_fields c.override_usage.ensures ∙ ap app_of_fields c.about.ensures ∙ c.new.ensures.app
