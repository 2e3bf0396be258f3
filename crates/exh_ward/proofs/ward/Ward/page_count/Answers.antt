use Rattle.std.proofs.Common.{ℕ, ◌-◌, ◌≤◌, ◌^◌, sym, subst}
use Rattle.exh_prefix.specs.declared.prefix.TheConstants.{LIMIT}
use Rattle.exh_ward.specs.WardState.{WardState}
use Rattle.exh_ward.proofs.AnswersAreLeft.{most_pages}
use Rattle.exh_ward.proofs.ward.Ward.page_count.Goals as goal

pub returns-clause-limit : goal.returns-clause-limit
returns-clause-limit g c =
    let P : WardState g.row.K.Denot → Type 0 = λ w. c.count.result ≤ 2 ^ (LIMIT - w.ward_bits) in
    let Q : ℕ → Type 0 = λ n. n ≤ 2 ^ (LIMIT - c.self.inside.ward_bits) in
    subst P c.self.view_is (subst Q (sym c.count.ensures) (most_pages c.pages_are_few.ensures c.self.invariant))
