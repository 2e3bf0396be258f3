-- The pairs of pages, one page after the other.
use Rattle.std.proofs.Common.{◌≡◌, ℕ, ◌+◌, List, [], ◌∷◌, ◌++◌, append-nil, append_assoc, map, slice_get, Some, take, sym, ap, ◌∙◌}
use Rattle.std.specs.Prelude.{slice_set}
use Rattle.std.specs.List.{flat_map}
use Rattle.std.proofs.lemmas.Grind.{flat_map-append}
use Rattle.std.proofs.lemmas.List.{map-append, set-get_or, take_more}
use Rattle.std.proofs.lemmas.Option.{get_or_from_slice_get, slice_get_within}
use Rattle.exh_page.specs.declared.page.Page.{Page}
use Rattle.exh_page.specs.Page.{records_of}
use Rattle.exh_page.specs.KeyMap.{pair_of}
use Rattle.exh_legal.specs.Pages.{IsAt}
use Rattle.exh_ward.specs.WardState.{WardState}
use Rattle.exh_map.specs.Pairs.{pairs_in, pairs_of}

one_taken : (pages : List Page) (number : ℕ) (page : Page) → IsAt pages number page → take (number + 1) pages ≡ take number pages ++ page ∷ []
one_taken pages number page is =
    take_more pages number page (slice_get_within pages number page is) ∙ ap (λ p. take number pages ++ p ∷ []) (get_or_from_slice_get pages number page page is)

pub pairs_more : (pages : List Page) (number : ℕ) (page : Page) → IsAt pages number page → pairs_of (take (number + 1) pages) ≡ pairs_of (take number pages) ++ map pair_of (records_of page)
pairs_more pages number page is =
    let front = take number pages in
    ap pairs_of (one_taken pages number page is)
    ∙ ap (map pair_of) (flat_map-append records_of front (page ∷ []) ∙ ap (λ rs. flat_map records_of front ++ rs) (append-nil (records_of page)))
    ∙ map-append pair_of (flat_map records_of front) (records_of page)

-- behind others
pub pairs_on : (old : List (List ℕ × List ℕ)) (pages : List Page) (number : ℕ) (page : Page) {so_far next : List (List ℕ × List ℕ)} → IsAt pages number page → so_far ≡ old ++ pairs_of (take number pages)
    → next ≡ so_far ++ map pair_of (records_of page) → next ≡ old ++ pairs_of (take (number + 1) pages)
pairs_on old pages number page is was pushed =
    pushed ∙ ap (λ pairs. pairs ++ map pair_of (records_of page)) was ∙ append_assoc old (pairs_of (take number pages)) (map pair_of (records_of page)) ∙ ap (λ more. old ++ more) (sym (pairs_more pages number page is))

-- ---- wards

pub wards_on : {K : Type 0} (wards : List (WardState K)) (number : ℕ) (ward : WardState K) {so_far next : List (List ℕ × List ℕ)} → slice_get wards number ≡ Some ward → so_far ≡ pairs_in (take number wards)
    → next ≡ so_far ++ pairs_of ward.pages → next ≡ pairs_in (take (number + 1) wards)
wards_on {K} wards number ward there was pushed =
    let f : WardState K → List (List ℕ × List ℕ) = λ (w : WardState K). pairs_of w.pages in
    let taken : take (number + 1) wards ≡ take number wards ++ ward ∷ [] = take_more wards number ward (slice_get_within wards number ward there) ∙ ap (λ w. take number wards ++ w ∷ []) (get_or_from_slice_get wards number ward ward there) in
    pushed ∙ ap (λ pairs. pairs ++ pairs_of ward.pages) was
    ∙ sym (ap pairs_in taken ∙ flat_map-append f (take number wards) (ward ∷ []) ∙ ap (λ more. pairs_in (take number wards) ++ more) (append-nil (pairs_of ward.pages)))

-- a ward that is put in its own place
pub set_same : {K : Type 0} (wards : List (WardState K)) (number : ℕ) (ward left : WardState K) → slice_get wards number ≡ Some ward → left ≡ ward → slice_set wards number left ≡ wards
set_same wards number ward left there same = ap (slice_set wards number) (same ∙ sym (get_or_from_slice_get wards number ward ward there)) ∙ set-get_or wards number ward
