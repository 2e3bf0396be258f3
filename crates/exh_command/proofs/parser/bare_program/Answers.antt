use Rattle.std.proofs.Common.{◌∙◌, ap, true}
use Rattle.std.proofs.lemmas.Result.{IfOk-weaker}
use Rattle.clap.specs.Simple.{app_of_fields, on_top}
use Rattle.exh_command.proofs.parser.bare_program.Goals as goal

pub returns : goal.returns
returns c =
    let about = ap app_of_fields c.about.ensures ∙ c.new.ensures.app in
    let version = ap app_of_fields c.version.ensures ∙ ap (on_top (λ s. record s { has_version = true })) about in
    let after_help = ap app_of_fields c.after_help.ensures ∙ version in
    let usage = ap app_of_fields c.override_usage.ensures ∙ after_help in
    let required = ap app_of_fields c.subcommand_required.ensures ∙ ap (on_top (λ s. record s { subcommand_required = true })) usage in
    let helped = ap app_of_fields c.arg_required_else_help.ensures ∙ ap (on_top (λ s. record s { arg_required_else_help = true })) required in
    IfOk-weaker c.bin_name.result _ _ (λ command named. ap app_of_fields named.0 ∙ helped) c.bin_name.ensures
