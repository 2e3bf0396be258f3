-- What is read of a ward's pages: their index, the pairs of their records, and the numbers of the entries of their table.
use Rattle.std.proofs.Common.{◌≡◌, ℕ, zero, suc, ◌+◌, ◌≤◌, List, [], ◌∷◌, ◌++◌, append-nil, length, map, nat_cmp, take, None, Some, refl, sym, ap, ◌∙◌, subst, arith}
use Rattle.std.specs.FinMap as fin
use Rattle.std.specs.List.{flat_map}
use Rattle.std.proofs.lemmas.Grind.{flat_map-append}
use Rattle.std.proofs.lemmas.List.{length-take-le, map-append, take_more}
use Rattle.std.proofs.lemmas.Option.{get_or_from_slice_get, slice_get_within}
use Rattle.exh_page.specs.declared.page.Page.{Page}
use Rattle.exh_page.specs.Page.{low_bound, records_of, with_records}
use Rattle.exh_legal.specs.LegalLaws.{KeepsPlaces}
use Rattle.exh_legal.specs.Pages.{IsAt, bare}
use Rattle.exh_page.specs.KeyMap.{pair_of}
use Rattle.exh_ward.specs.FromPages.{HaveOwnBounds, pairs_of}
use Rattle.exh_legal.specs.PageIndex.{IndexMap, IsIndexOf}
use Rattle.exh_ward.proofs.ChangesAreTold.{index_grown}
use Rattle.exh_ward.proofs.NewWardsAreSound.{first_alone}

-- ---- pages up to a number

there_before : (pages : List Page) (count number : ℕ) (page : Page) → IsAt (take count pages) number page → IsAt pages number page
there_before [] zero number page is = is
there_before [] (suc count) number page is = is
there_before (first ∷ pages) zero number page is = cc
there_before (first ∷ pages) (suc count) zero page is = is
there_before (first ∷ pages) (suc count) (suc number) page is = there_before pages count number page is

still_there : (front back : List Page) (number : ℕ) (page : Page) → IsAt front number page → IsAt (front ++ back) number page
still_there [] back number page is = cc
still_there (first ∷ front) back zero page is = is
still_there (first ∷ front) back (suc number) page is = still_there front back number page is

pub one_taken : (pages : List Page) (number : ℕ) (page : Page) → IsAt pages number page → take (number + 1) pages ≡ take number pages ++ page ∷ []
one_taken pages number page is =
    take_more pages number page (slice_get_within pages number page is) ∙ ap (λ p. take number pages ++ p ∷ []) (get_or_from_slice_get pages number page page is)

-- ---- the index

none_indexed : (index : IndexMap) → index ≡ fin.empty → IsIndexOf index []
none_indexed index is low number = (
  λ found. let none : None ≡ Some number = sym (ap (λ (index : IndexMap). fin.get index low) is ∙ fin.get-empty nat_cmp low) ∙ found in cc,
  λ page. cc,
)

-- page 0 isn't in it
first_only : (index : IndexMap) (page : Page) → IsIndexOf index [] → IsIndexOf index (page ∷ [])
first_only index page none low number = (
  λ found. let is = ((none low number).0 found).1 in cc,
  λ is. absurd (first_alone page low number is.0 is.1),
)

pub first_indexed : (index : IndexMap) (pages : List Page) → index ≡ fin.empty → IsIndexOf index (bare (take 1 pages))
first_indexed index [] is = none_indexed index is
first_indexed index (page ∷ pages) is = first_only index (with_records [] page) (none_indexed index is)

pub one_page_more : (index next : IndexMap) (pages : List Page) (number low : ℕ) (page : Page) → HaveOwnBounds pages → 1 ≤ number → IsAt pages number page → low ≡ low_bound page → IsIndexOf index (bare (take number pages))
    → next ≡ fin.insert index low number → IsIndexOf next (bare (take (number + 1) pages))
one_page_more index next pages number low page apart some is low_is indexed next_is =
    let front = take number pages in
    let within = slice_get_within pages number page is in
    let count : length front ≡ number = length-take-le number pages (omega (arith, within)) in
    let places : KeepsPlaces front (front ++ page ∷ []) = λ at other there. (other, still_there front (page ∷ []) at other there, refl) in
    let alone : (at : ℕ) (other : Page) → IsAt front at other → low_bound other ≡ low_bound page → ⊥ =
    λ at other there same.
    let same_place = apart at number other page (there_before pages number at other there) is same in
    absurd (omega (arith, same_place, count, slice_get_within front at other there)) in
    let grown = index_grown index front front page indexed places refl (omega (arith, count)) alone in
    let next_grown : fin.insert index (low_bound page) (length front) ≡ next = ap (fin.insert index (low_bound page)) count ∙ ap (λ low. fin.insert index low number) (sym low_is) ∙ sym next_is in
    subst (λ pages. IsIndexOf next (bare pages)) (sym (one_taken pages number page is)) (subst (λ index. IsIndexOf index (bare (front ++ page ∷ []))) next_grown grown)

-- ---- the pairs

pub pairs_more : (pages : List Page) (number : ℕ) (page : Page) → IsAt pages number page → pairs_of (take (number + 1) pages) ≡ pairs_of (take number pages) ++ map pair_of (records_of page)
pairs_more pages number page is =
    let front = take number pages in
    ap pairs_of (one_taken pages number page is)
    ∙ ap (map pair_of) (flat_map-append records_of front (page ∷ []) ∙ ap (λ rs. flat_map records_of front ++ rs) (append-nil (records_of page)))
    ∙ map-append pair_of (flat_map records_of front) (records_of page)
