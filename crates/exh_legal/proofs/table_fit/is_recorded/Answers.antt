use Rattle.std.proofs.Common.{sym, ap, ◌∙◌}
use Rattle.std.specs.Prelude.{is_some}
use Rattle.exh_legal.proofs.Fits.{one_parent}
use Rattle.exh_legal.proofs.table_fit.is_recorded.Goals as goal

pub returns-in-Some : goal.returns-in-Some
returns-in-Some c page of_head =
    let low = c.low_bound_of.ensures.low page of_head in
    let same = ap is_some c.get.ensures in (
      λ is. one_parent c.args.table.now page c.in-Some.parent c.in-Some.ensures.0 (c.in-Some.ensures.1 ∙ low) (sym same ∙ sym c.is_some.ensures ∙ is),
      λ recorded. c.is_some.ensures ∙ same ∙ recorded c.in-Some.parent c.in-Some.ensures.0 (sym (c.in-Some.ensures.1 ∙ low)),
    )
