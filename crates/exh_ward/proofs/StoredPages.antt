-- Pages in a store, after one is written.
use Rattle.std.proofs.Common.{◌≡◌, ℕ, List, refl, ap, ◌∙◌}
use Rattle.std.specs.Prelude.{slice_set}
use Rattle.exh_prefix.specs.PrefixListLemmas.{set_same}
use Rattle.exh_page.specs.declared.page.Page.{Page}
use Rattle.exh_page.specs.declared.page.Page.TheVariants.{Live, Forward}
use Rattle.exh_page.specs.Page.{records_of, with_records}
use Rattle.exh_legal.specs.Pages.{IsAt}

own_records : (page : Page) → with_records (records_of page) page ≡ page
own_records (Live prefix right records) = refl
own_records (Forward low target) = refl

-- a page written with the records that it has
pub records_kept : (pages : List Page) (number : ℕ) (page : Page) → IsAt pages number page → slice_set pages number (with_records (records_of page) page) ≡ pages
records_kept pages number page is = ap (slice_set pages number) (own_records page) ∙ set_same pages number page is
