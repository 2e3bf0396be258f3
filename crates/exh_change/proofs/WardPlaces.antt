-- The pages of a ward among those of all wards, by their places: their numbers, and what one page more or another page changes.
use Rattle.std.proofs.Common.{◌≡◌, ℕ, zero, suc, ◌+◌, ◌<◌, nat_eq, Bool, true, false, cond, List, [], ◌∷◌, ◌++◌, length, take, slice_get, inl, inr, Some, refl, sym, ap, ◌∙◌, arith}
use Rattle.std.specs.Prelude.{slice_set}
use Rattle.std.proofs.lemmas.Bool.{cases_lt}
use Rattle.std.proofs.lemmas.Bool.Decides.{nat_tests}
use Rattle.std.proofs.lemmas.List.Sums.{sum_by-cons}
use Rattle.exh_prefix.specs.Leading.{ward_of}
use Rattle.exh_page.specs.declared.page.Page.{Page}
use Rattle.exh_page.specs.Page.{low_bound}
use Rattle.exh_cells.specs.Fit.{pages_in}
use Rattle.exh_cells.specs.LegalPlaced.{pages_of_ward}
use Rattle.exh_cells.specs.PlacedFile.{lows_of}

pub same_is : (n m : ℕ) → n ≡ m → nat_eq n m ≡ true
same_is n m same = grind (arith, nat_tests)

pub other_is : (n m : ℕ) → (n ≡ m → ⊥) → nat_eq n m ≡ false
other_is n m apart = grind (arith, nat_tests)

-- ---- low bounds

pub low_at : (pages : List Page) (place : ℕ) (page : Page) → slice_get pages place ≡ Some page → slice_get (lows_of pages) place ≡ Some (low_bound page)
low_at [] place page is = cc
low_at (one ∷ pages) zero page is = let same : one ≡ page = cc in ap (λ (page : Page). Some (low_bound page)) same
low_at (one ∷ pages) (suc place) page is = low_at pages place page is

pub page_of_low : (pages : List Page) (place low : ℕ) → slice_get (lows_of pages) place ≡ Some low → (page : Page) × (slice_get pages place ≡ Some page) × (low_bound page ≡ low)
page_of_low [] place low is = cc
page_of_low (one ∷ pages) zero low is = (one, refl, (let same : low_bound one ≡ low = cc in same))
page_of_low (one ∷ pages) (suc place) low is = page_of_low pages place low is

-- a page with the low bound of the one whose place it takes changes none
pub lows_set : (pages : List Page) (place : ℕ) (old page : Page) → slice_get pages place ≡ Some old → low_bound page ≡ low_bound old → lows_of (slice_set pages place page) ≡ lows_of pages
lows_set [] place old page is same = cc
lows_set (first ∷ pages) zero old page is same =
    let here : first ≡ old = cc in
    ap (λ (low : ℕ). low ∷ lows_of pages) (same ∙ ap low_bound (sym here))
lows_set (first ∷ pages) (suc place) old page is same = ap (λ (lows : List ℕ). low_bound first ∷ lows) (lows_set pages place old page is same)

pub lows_push : (pages : List Page) (page : Page) → lows_of (pages ++ page ∷ []) ≡ lows_of pages ++ low_bound page ∷ []
lows_push [] page = refl
lows_push (first ∷ pages) page = ap (λ (lows : List ℕ). low_bound first ∷ lows) (lows_push pages page)

module _ (bits ward : ℕ) where
  abbrev is_own : ℕ → Bool
  is_own low = nat_eq (ward_of bits low) ward

  counted_next : (low : ℕ) (lows : List ℕ) → pages_in bits ward (low ∷ lows) ≡ cond (is_own low) 1 0 + pages_in bits ward lows
  counted_next low lows = sum_by-cons (λ (low : ℕ). cond (is_own low) 1 0) low lows

  -- ---- numbers

  -- a page of the ward stands among the ward's at the number of those before it
  pub numbered : (pages : List Page) (place : ℕ) (page : Page) → slice_get pages place ≡ Some page → ward_of bits (low_bound page) ≡ ward
      → slice_get (pages_of_ward bits pages ward) (pages_in bits ward (take place (lows_of pages))) ≡ Some page
  numbered [] place page is own = cc
  numbered (one ∷ pages) zero page is own =
      let same : one ≡ page = cc in
      let here : is_own (low_bound one) ≡ true = same_is (ward_of bits (low_bound one)) ward (ap (λ (page : Page). ward_of bits (low_bound page)) same ∙ own) in
      rw here is
  numbered (one ∷ pages) (suc place) page is own =
      let more = numbered pages place page is own in
      let count = pages_in bits ward (take place (lows_of pages)) in
      let rest = pages_of_ward bits pages ward in
      let by_test : (b : Bool) → slice_get (cond b (one ∷ rest) rest) (cond b 1 0 + count) ≡ Some page = λ (b : Bool).
      elim b as (λ (b : Bool). slice_get (cond b (one ∷ rest) rest) (cond b 1 0 + count) ≡ Some page) [
        | true ↦ (let later : 1 + count ≡ suc count = omega arith in ap (slice_get (one ∷ rest)) later ∙ more)
        | false ↦ (let here : 0 + count ≡ count = omega arith in ap (slice_get rest) here ∙ more)
      ] in
      ap (slice_get (pages_of_ward bits (one ∷ pages) ward)) (counted_next (low_bound one) (take place (lows_of pages))) ∙ by_test (is_own (low_bound one))

  -- of two places of the ward the later one has the greater number
  counted_more : (lows : List ℕ) (one other low : ℕ) → one < other → slice_get lows one ≡ Some low → ward_of bits low ≡ ward → pages_in bits ward (take one lows) < pages_in bits ward (take other lows)
  counted_more [] one other low less is own = cc
  counted_more (first ∷ lows) one zero low less is own = absurd (omega (arith, less))
  counted_more (first ∷ lows) zero (suc other) low less is own =
      let same : first ≡ low = cc in
      let here : ◌≡◌ {A = ℕ} (cond (is_own first) 1 0) 1 = ap (λ (b : Bool). cond b 1 0) (same_is (ward_of bits first) ward (ap (ward_of bits) same ∙ own)) in
      omega (arith, here, counted_next first (take other lows))
  counted_more (first ∷ lows) (suc one) (suc other) low less is own =
      omega (arith, counted_next first (take one lows), counted_next first (take other lows), counted_more lows one other low (omega (arith, less)) is own)

  pub one_place : (lows : List ℕ) (one other low twin : ℕ) → slice_get lows one ≡ Some low → slice_get lows other ≡ Some twin → ward_of bits low ≡ ward → ward_of bits twin ≡ ward
      → pages_in bits ward (take one lows) ≡ pages_in bits ward (take other lows) → one ≡ other
  one_place lows one other low twin is too own own_too same = elim (cases_lt one other) [
    | inl less ↦ absurd (omega (arith, counted_more lows one other low less is own, same))
    | inr past ↦ elim (cases_lt other one) [
      | inl less ↦ absurd (omega (arith, counted_more lows other one twin less too own_too, same))
      | inr not ↦ omega (arith, past, not)
    ]
  ]

  pub length_own : (pages : List Page) → length (pages_of_ward bits pages ward) ≡ pages_in bits ward (lows_of pages)
  length_own [] = refl
  length_own (first ∷ pages) =
      let rest = pages_of_ward bits pages ward in
      let by_test : (b : Bool) → length (cond b (first ∷ rest) rest) ≡ cond b 1 0 + pages_in bits ward (lows_of pages) = λ (b : Bool).
      elim b as (λ (b : Bool). length (cond b (first ∷ rest) rest) ≡ cond b 1 0 + pages_in bits ward (lows_of pages)) [
        | true ↦ omega (arith, length_own pages)
        | false ↦ omega (arith, length_own pages)
      ] in
      by_test (is_own (low_bound first)) ∙ sym (counted_next (low_bound first) (lows_of pages))

  -- ---- one page more

  pub counted_push_own : (lows : List ℕ) (low : ℕ) → ward_of bits low ≡ ward → pages_in bits ward (lows ++ low ∷ []) ≡ pages_in bits ward lows + 1
  counted_push_own [] low own =
      let here : ◌≡◌ {A = ℕ} (cond (is_own low) 1 0) 1 = ap (λ (b : Bool). cond b 1 0) (same_is (ward_of bits low) ward own) in
      omega (arith, here, counted_next low [])
  counted_push_own (first ∷ lows) low own = omega (arith, counted_next first (lows ++ low ∷ []), counted_next first lows, counted_push_own lows low own)

  pub counted_push_other : (lows : List ℕ) (low : ℕ) → (ward_of bits low ≡ ward → ⊥) → pages_in bits ward (lows ++ low ∷ []) ≡ pages_in bits ward lows
  counted_push_other [] low other =
      let here : ◌≡◌ {A = ℕ} (cond (is_own low) 1 0) 0 = ap (λ (b : Bool). cond b 1 0) (other_is (ward_of bits low) ward other) in
      omega (arith, here, counted_next low [])
  counted_push_other (first ∷ lows) low other = omega (arith, counted_next first (lows ++ low ∷ []), counted_next first lows, counted_push_other lows low other)

  pub push_own : (pages : List Page) (page : Page) → ward_of bits (low_bound page) ≡ ward → pages_of_ward bits (pages ++ page ∷ []) ward ≡ pages_of_ward bits pages ward ++ page ∷ []
  push_own [] page own = let here : is_own (low_bound page) ≡ true = same_is (ward_of bits (low_bound page)) ward own in rw here refl
  push_own (first ∷ pages) page own =
      let rest = pages_of_ward bits pages ward in
      let longer = pages_of_ward bits (pages ++ page ∷ []) ward in
      elim (is_own (low_bound first)) as (λ (b : Bool). cond b (first ∷ longer) longer ≡ cond b (first ∷ rest) rest ++ page ∷ []) [
        | true ↦ ap (λ (pages : List Page). first ∷ pages) (push_own pages page own)
        | false ↦ push_own pages page own
      ]

  pub push_other : (pages : List Page) (page : Page) → (ward_of bits (low_bound page) ≡ ward → ⊥) → pages_of_ward bits (pages ++ page ∷ []) ward ≡ pages_of_ward bits pages ward
  push_other [] page other = let here : is_own (low_bound page) ≡ false = other_is (ward_of bits (low_bound page)) ward other in rw here refl
  push_other (first ∷ pages) page other =
      let rest = pages_of_ward bits pages ward in
      let longer = pages_of_ward bits (pages ++ page ∷ []) ward in
      elim (is_own (low_bound first)) as (λ (b : Bool). cond b (first ∷ longer) longer ≡ cond b (first ∷ rest) rest) [
        | true ↦ ap (λ (pages : List Page). first ∷ pages) (push_other pages page other)
        | false ↦ push_other pages page other
      ]

  -- ---- another page in its place

  pub set_own : (pages : List Page) (place : ℕ) (old page : Page) → slice_get pages place ≡ Some old → ward_of bits (low_bound old) ≡ ward → ward_of bits (low_bound page) ≡ ward
      → pages_of_ward bits (slice_set pages place page) ward ≡ slice_set (pages_of_ward bits pages ward) (pages_in bits ward (take place (lows_of pages))) page
  set_own [] place old page is own own_too = cc
  set_own (first ∷ pages) zero old page is own own_too =
      let same : first ≡ old = cc in
      let here : is_own (low_bound first) ≡ true = same_is (ward_of bits (low_bound first)) ward (ap (λ (page : Page). ward_of bits (low_bound page)) same ∙ own) in
      let there : is_own (low_bound page) ≡ true = same_is (ward_of bits (low_bound page)) ward own_too in
      rw (here, there) refl
  set_own (first ∷ pages) (suc place) old page is own own_too =
      let count = pages_in bits ward (take place (lows_of pages)) in
      let rest = pages_of_ward bits pages ward in
      let left = pages_of_ward bits (slice_set pages place page) ward in
      let more : left ≡ slice_set rest count page = set_own pages place old page is own own_too in
      let by_test : (b : Bool) → cond b (first ∷ left) left ≡ slice_set (cond b (first ∷ rest) rest) (cond b 1 0 + count) page = λ (b : Bool).
      elim b as (λ (b : Bool). cond b (first ∷ left) left ≡ slice_set (cond b (first ∷ rest) rest) (cond b 1 0 + count) page) [
        | true ↦ (let later : 1 + count ≡ suc count = omega arith in ap (λ (pages : List Page). first ∷ pages) more ∙ ap (λ (n : ℕ). slice_set (first ∷ rest) n page) (sym later))
        | false ↦ (let here : 0 + count ≡ count = omega arith in more ∙ ap (λ (n : ℕ). slice_set rest n page) (sym here))
      ] in
      by_test (is_own (low_bound first)) ∙ ap (λ (n : ℕ). slice_set (pages_of_ward bits (first ∷ pages) ward) n page) (sym (counted_next (low_bound first) (take place (lows_of pages))))

  pub set_other : (pages : List Page) (place : ℕ) (old page : Page) → slice_get pages place ≡ Some old → (ward_of bits (low_bound old) ≡ ward → ⊥) → (ward_of bits (low_bound page) ≡ ward → ⊥)
      → pages_of_ward bits (slice_set pages place page) ward ≡ pages_of_ward bits pages ward
  set_other [] place old page is other other_too = cc
  set_other (first ∷ pages) zero old page is other other_too =
      let same : first ≡ old = cc in
      let here : is_own (low_bound first) ≡ false = other_is (ward_of bits (low_bound first)) ward (λ own. other (ap (λ (page : Page). ward_of bits (low_bound page)) (sym same) ∙ own)) in
      let there : is_own (low_bound page) ≡ false = other_is (ward_of bits (low_bound page)) ward other_too in
      rw (here, there) refl
  set_other (first ∷ pages) (suc place) old page is other other_too =
      let rest = pages_of_ward bits pages ward in
      let left = pages_of_ward bits (slice_set pages place page) ward in
      let more : left ≡ rest = set_other pages place old page is other other_too in
      elim (is_own (low_bound first)) as (λ (b : Bool). cond b (first ∷ left) left ≡ cond b (first ∷ rest) rest) [
        | true ↦ ap (λ (pages : List Page). first ∷ pages) more
        | false ↦ more
      ]
