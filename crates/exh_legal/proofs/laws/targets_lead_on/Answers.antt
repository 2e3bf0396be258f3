use Rattle.std.proofs.Common.{ap, ◌∙◌, ◌≤◌, subst, ℕ}
use Rattle.exh_legal.specs.BareLemmas.{bare_at, at_bare, bare_low}
use Rattle.exh_page.specs.Page.{low_bound}
use Rattle.exh_legal.proofs.RightLinks.{forward_leads}
use Rattle.exh_legal.proofs.laws.targets_lead_on.Goals as goal

pub returns : goal.returns
returns c ward pages number low target linked is =
    let found = forward_leads linked number low target (bare_at pages number _ is) in
    let full = at_bare pages target found.0 found.1 in
    let P : ℕ → Type 0 = λ bound. bound ≤ low in
    (full.0, full.1, subst P (ap low_bound full.2 ∙ bare_low full.0) found.2)
