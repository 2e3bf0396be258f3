use Rattle.std.proofs.Common.{ap, ◌∙◌, ◌≤◌, subst, ℕ}
use Rattle.exh_legal.specs.BareLemmas.{bare_at, at_bare, bare_low}
use Rattle.exh_page.specs.Page.{low_bound}
use Rattle.exh_legal.proofs.RightLinks.{live_leads}
use Rattle.exh_legal.proofs.laws.right_links_lead_on.Goals as goal

pub returns : goal.returns
returns c ward pages number prefix link records pseudokey linked is small covered reached else =
    let found = live_leads linked number prefix link _ (bare_at pages number _ is) pseudokey small covered reached else in
    let full = at_bare pages found.0 found.2 found.3 in
    let P : ℕ → Type 0 = λ low. low ≤ pseudokey in
    (found.0, found.1, full.0, full.1, subst P (ap low_bound full.2 ∙ bare_low full.0) found.4)
