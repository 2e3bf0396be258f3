use Rattle.std.proofs.Common.{◌≤◌, length, refl, arith}
use Rattle.std.proofs.lemmas.Option.{slice_get_within}
use Rattle.exh_legal.proofs.table_fit.has_all_entries.Goals as goal

pub returns : goal.returns
returns g c =
    let all : length (g.P.PageList.pages c.args.pages.now) ≤ c.loop-number.number = omega (arith, c.loop-number-test.false, c.page_count-number-end.ensures) in
    ((λ _. λ number page there. c.loop-number.invariant number page (omega (arith, all, slice_get_within (g.P.PageList.pages c.args.pages.now) number page there)) there), (λ _. refl))
