-- The pages of wards, and what is counted of them.
use Rattle.std.proofs.Common.{◌≡◌, ℕ, ◌+◌, ◌≤◌, List, [], ◌∷◌, ◌++◌, append-nil, length, map, slice_get, Some, take, sym, ap, ◌∙◌, arith}
use Rattle.std.specs.Prelude.{slice_set}
use Rattle.std.specs.List.{flat_map}
use Rattle.std.proofs.lemmas.Grind.{flat_map-append}
use Rattle.std.proofs.lemmas.List.{map-append, set-get_or, take_more}
use Rattle.std.proofs.lemmas.Option.{get_or_from_slice_get, slice_get_within}
use Rattle.exh_keyer.specs.declared.any_keyer.AnyKeyer.{AnyKeyer}
use Rattle.exh_page.specs.Page.{records_of}
use Rattle.exh_page.specs.declared.page.Page.{Page}
use Rattle.exh_page.specs.declared.page.Page.TheVariants.{Live, Forward}
use Rattle.exh_page.specs.declared.page.TheConstants.{CAP_LIMIT}
use Rattle.exh_legal.specs.MapLemmas.{page_at}
use Rattle.exh_legal.specs.Pages.{IsAt, IsLegalPage}
use Rattle.exh_ward.specs.WardState.{IsSound, WardState}
use Rattle.exh_compact.specs.Shape.{shape_of}
use Rattle.exh_compact.specs.Stats.{shapes_in, ward_counts_of}
use Rattle.exh_compact.specs.declared.page_shape.PageShape.{PageShape}
use Rattle.exh_compact.specs.declared.ward_counts.WardCounts.{WardCounts}

-- a page of a ward has no more records than a page of any file
few_in : (cap : ℕ) (pseudo : List ℕ → ℕ) (page : Page) → IsLegalPage cap pseudo page → cap ≤ CAP_LIMIT → length (records_of page) ≤ CAP_LIMIT
few_in cap pseudo (Live prefix right records) legal most = omega (arith, legal.1, most)
few_in cap pseudo (Forward low target) legal most = omega arith

pub few_records : {K : Type 0} (pseudo : List ℕ → ℕ) (ward : WardState K) (number : ℕ) (page : Page) → IsSound pseudo ward → ward.cap ≤ CAP_LIMIT → IsAt ward.pages number page → length (records_of page) ≤ CAP_LIMIT
few_records pseudo ward number page sound most there = few_in ward.cap pseudo page (page_at (IsLegalPage ward.cap pseudo) ward.pages number page sound.legal.legal.legal.each there) most

one_taken : {A : Type 0} (items : List A) (number : ℕ) (item : A) → slice_get items number ≡ Some item → take (number + 1) items ≡ take number items ++ item ∷ []
one_taken items number item is =
    take_more items number item (slice_get_within items number item is) ∙ ap (λ p. take number items ++ p ∷ []) (get_or_from_slice_get items number item item is)

-- of one page more
pub shapes_on : (pages : List Page) (number : ℕ) (page : Page) {so_far next : List PageShape} → IsAt pages number page → so_far ≡ map shape_of (take number pages) → next ≡ so_far ++ shape_of page ∷ []
    → next ≡ map shape_of (take (number + 1) pages)
shapes_on pages number page is was pushed =
    pushed ∙ ap (λ shapes. shapes ++ shape_of page ∷ []) was ∙ sym (ap (map shape_of) (one_taken pages number page is) ∙ map-append shape_of (take number pages) (page ∷ []))

-- ---- wards

abbrev counts_in : WardState AnyKeyer → WardCounts
counts_in ward = ward_counts_of (map shape_of ward.pages)

pub wards_on : (wards : List (WardState AnyKeyer)) (number : ℕ) (ward : WardState AnyKeyer) {so_far next : List PageShape} → slice_get wards number ≡ Some ward → so_far ≡ shapes_in (take number wards)
    → next ≡ so_far ++ map shape_of ward.pages → next ≡ shapes_in (take (number + 1) wards)
wards_on wards number ward there was pushed =
    let f : WardState AnyKeyer → List Page = λ (w : WardState AnyKeyer). w.pages in
    pushed ∙ ap (λ shapes. shapes ++ map shape_of ward.pages) was
    ∙ sym (ap shapes_in (one_taken wards number ward there)
    ∙ ap (map shape_of) (flat_map-append f (take number wards) (ward ∷ []) ∙ ap (λ more. flat_map f (take number wards) ++ more) (append-nil ward.pages))
    ∙ map-append shape_of (flat_map f (take number wards)) ward.pages)

pub counts_on : (wards : List (WardState AnyKeyer)) (number : ℕ) (ward : WardState AnyKeyer) {so_far next : List WardCounts} → slice_get wards number ≡ Some ward → so_far ≡ map counts_in (take number wards)
    → next ≡ so_far ++ counts_in ward ∷ [] → next ≡ map counts_in (take (number + 1) wards)
counts_on wards number ward there was pushed =
    pushed ∙ ap (λ counts. counts ++ counts_in ward ∷ []) was ∙ sym (ap (map counts_in) (one_taken wards number ward there) ∙ map-append counts_in (take number wards) (ward ∷ []))

-- a ward that is put in its own place
pub set_same : {K : Type 0} (wards : List (WardState K)) (number : ℕ) (ward left : WardState K) → slice_get wards number ≡ Some ward → left ≡ ward → slice_set wards number left ≡ wards
set_same wards number ward left there same = ap (slice_set wards number) (same ∙ sym (get_or_from_slice_get wards number ward ward there)) ∙ set-get_or wards number ward
