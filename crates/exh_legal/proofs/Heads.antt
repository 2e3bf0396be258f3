-- The pages that have a live head.
use Rattle.std.proofs.Common.{◌≡◌, ℕ, Bool, List, Option, subst}
use Rattle.exh_page.specs.declared.page.Page.{Page}
use Rattle.exh_page.specs.declared.page.Page.TheVariants.{Live, Forward}
use Rattle.exh_page.specs.declared.page_head.PageHead.TheVariants.{Live as LiveHead}
use Rattle.exh_page.specs.declared.record.Record.{Record}
use Rattle.exh_page.specs.PageHead.{HasHead}
use Rattle.exh_legal.specs.BuiltIndex.{EachOf}
use Rattle.exh_legal.specs.Pages.{IsAt}

-- it holds of each where it does of the live ones with that prefix and that link
of_live : (P : Page → Type 0) (prefix : List Bool) (right : Option ℕ) (count : ℕ) → ((records : List Record) → P (Live prefix right records)) → EachOf (LiveHead prefix right count) P
of_live P prefix right count each (Live own link records) is =
    let same : prefix ≡ own = cc in
    let linked : right ≡ link = cc in
    subst (λ (p : List Bool). P (Live p link records)) same (subst (λ (l : Option ℕ). P (Live prefix l records)) linked (each records))
of_live P prefix right count each (Forward low target) is = cc

-- the page that has a live head
pub live_at : (pages : List Page) (number : ℕ) (prefix : List Bool) (right : Option ℕ) (count : ℕ) → HasHead pages number (LiveHead prefix right count) → (records : List Record) × IsAt pages number (Live prefix right records)
live_at pages number prefix right count there =
    of_live (λ page. IsAt pages number page → (records : List Record) × IsAt pages number (Live prefix right records)) prefix right count (λ records at. (records, at)) there.0 there.2 there.1
