use Rattle.std.proofs.Common.{sym, ◌∙◌, arith}
use Rattle.std.proofs.lemmas.Grind.{common_steps}
use Rattle.exh_pair_text.proofs.Cases.{few_is, many_is, value_kept, value_long}
use Rattle.exh_pair_text.proofs.spelled.Spelled.value.Goals as goal

pub returns-in-Few : goal.returns-in-Few
returns-in-Few c bytes is =
    let few = few_is bytes _ (sym c.in-Few.is ∙ is) in
    grind (arith, common_steps, few.0, value_kept bytes few.1)

pub returns-in-Many : goal.returns-in-Many
returns-in-Many c bytes is =
    let many = many_is bytes _ (sym c.in-Many.is ∙ is) in
    grind (arith, common_steps, many.0, value_long bytes many.1)
