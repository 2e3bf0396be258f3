-- Pages at their numbers: with and without records, as homes, and where they keep numbers and low bounds.
use Rattle.std.proofs.Common.{◌≡◌, ℕ, zero, suc, ◌<◌, ◌≤◌, ◌^◌, Bool, List, [], ◌∷◌, slice_get, Option, None, Some, refl, sym, ap, ◌∙◌, subst, arith}
use Rattle.std.specs.Prelude.{slice_set}
use Rattle.std.specs.Option.{option_map_or}
use Rattle.exh_prefix.specs.LowLemmas.{begins_own_low}
use Rattle.exh_prefix.specs.PrefixLemmas.{begins_low, begins_from_low}
use Rattle.exh_page.specs.declared.page.Page.{Page}
use Rattle.exh_page.specs.declared.page.Page.TheVariants.{Live, Forward}
use Rattle.exh_page.specs.declared.record.Record.{Record}
use Rattle.exh_page.specs.Page.{IsLive, low_bound, with_records}
use Rattle.exh_legal.specs.BareLemmas.{bare_at, at_bare, bare_low}
use Rattle.exh_legal.specs.Growth.{IsPageOf}
use Rattle.exh_legal.specs.LegalLaws.{KeepsPlaces, IsBelow}
use Rattle.exh_legal.specs.Pages.{IsAt, IsHome, IsWithin, bare}

-- the only page of a list
pub only_at : (page other : Page) (number : ℕ) → IsAt (page ∷ []) number other → (number ≡ 0) × (other ≡ page)
only_at page other zero is = (refl, cc)
only_at page other (suc number) is = cc

-- ---- a page with other records

bare_with : (records : List Record) (page : Page) → with_records [] (with_records records page) ≡ with_records [] page
bare_with records (Live prefix right old) = refl
bare_with records (Forward low target) = refl

-- records don't matter for pages without them
pub bare_set : (pages : List Page) (number : ℕ) (page : Page) (records : List Record) → IsAt pages number page → bare (slice_set pages number (with_records records page)) ≡ bare pages
bare_set [] number page records is = refl
bare_set (first ∷ pages) zero page records is =
    let same : first ≡ page = cc in
    ap (λ p. p ∷ bare pages) (bare_with records page ∙ ap (with_records []) (sym same))
bare_set (first ∷ pages) (suc number) page records is = ap (λ rest. with_records [] first ∷ rest) (bare_set pages number page records is)

bare_found : (pages : List Page) (at : ℕ) (records : Page → List Record) (found : Option Page) → slice_get pages at ≡ found → bare (option_map_or (λ page. slice_set pages at (with_records (records page) page)) found pages) ≡ bare pages
bare_found pages at records None is = refl
bare_found pages at records (Some page) is = bare_set pages at page (records page) is

-- where the page at a number, if there is one, has other records
pub bare_with_other : (pages : List Page) (at : ℕ) (records : Page → List Record) → bare (option_map_or (λ page. slice_set pages at (with_records (records page) page)) (slice_get pages at) pages) ≡ bare pages
bare_with_other pages at records = bare_found pages at records (slice_get pages at) refl

-- a page of pages without records is one with them, and back
pub page_full : (pages : List Page) (low number : ℕ) → IsPageOf (bare pages) low number → IsPageOf pages low number
page_full pages low number is =
    let full = at_bare pages number is.0 is.1 in
    (full.0, full.1, sym (bare_low full.0) ∙ sym (ap low_bound full.2) ∙ is.2)

pub page_bare : (pages : List Page) (low number : ℕ) → IsPageOf pages low number → IsPageOf (bare pages) low number
page_bare pages low number is = (with_records [] is.0, bare_at pages number is.0 is.1, bare_low is.0 ∙ is.2)

-- ---- live and forwarding pages

pub bare_live : (page : Page) → IsLive page → IsLive (with_records [] page)
bare_live (Live prefix right records) live = live
bare_live (Forward low target) live = live

pub live_of_bare : (page : Page) → IsLive (with_records [] page) → IsLive page
live_of_bare (Live prefix right records) live = live
live_of_bare (Forward low target) live = live

pub forward_of_bare : (page : Page) (low target : ℕ) → Forward low target ≡ with_records [] page → page ≡ Forward low target
forward_of_bare (Live prefix right records) low target same = cc
forward_of_bare (Forward bound to) low target same = sym same

-- ---- homes

pub home_bare : (page : Page) (pseudokey : ℕ) → IsHome page pseudokey → IsHome (with_records [] page) pseudokey
home_bare (Live prefix right records) pseudokey home = home
home_bare (Forward low target) pseudokey home = home

pub home_full : (page : Page) (pseudokey : ℕ) → IsHome (with_records [] page) pseudokey → IsHome page pseudokey
home_full (Live prefix right records) pseudokey home = home
home_full (Forward low target) pseudokey home = home

pub home_live : (page : Page) (pseudokey : ℕ) → IsHome page pseudokey → IsLive page
home_live (Live prefix right records) pseudokey home = tt
home_live (Forward low target) pseudokey home = home

-- a live page begins its own low bound
pub home_of_low : (page : Page) (ward : List Bool) → IsWithin ward page → IsLive page → IsHome page (low_bound page)
home_of_low (Live prefix right records) ward within live = begins_own_low prefix within.1
home_of_low (Forward low target) ward within live = absurd live

-- what a home begins up to the pseudokey
pub home_between : (ward : List Bool) (page : Page) (pseudokey between : ℕ) → IsWithin ward page → pseudokey < 2 ^ 64 → IsHome page pseudokey → low_bound page ≤ between → between ≤ pseudokey → IsHome page between
home_between ward (Live prefix right records) pseudokey between within small home above below =
    begins_from_low prefix between (omega (arith, within.1)) above (omega (arith, below, (begins_low prefix pseudokey (omega (arith, within.1)) small home).1))
home_between ward (Forward low target) pseudokey between within small home above below = absurd home

-- ---- numbers and low bounds that are kept

pub places_same : (pages : List Page) → KeepsPlaces pages pages
places_same pages number page is = (page, is, refl)

pub places_from : (pages new : List Page) → new ≡ pages → KeepsPlaces pages new
places_from pages new same = subst (KeepsPlaces pages) (sym same) (places_same pages)

pub places_on : (one two three : List Page) → KeepsPlaces one two → KeepsPlaces two three → KeepsPlaces one three
places_on one two three first second number page is =
    let next = first number page is in
    let last = second number next.0 next.1 in
    (last.0, last.1, last.2 ∙ next.2)

module _ (pages new : List Page) (places : KeepsPlaces pages new) where
  pub page_kept : (low number : ℕ) → IsPageOf pages low number → IsPageOf new low number
  page_kept low number is = let kept = places number is.0 is.1 in (kept.0, kept.1, kept.2 ∙ is.2)

  pub below_kept : (number pseudokey : ℕ) → IsBelow pages number pseudokey → IsBelow new number pseudokey
  below_kept number pseudokey is = let kept = places number is.0 is.1 in (kept.0, kept.1, omega (arith, is.2, kept.2))
