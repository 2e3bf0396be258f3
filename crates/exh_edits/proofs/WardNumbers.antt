-- The numbers that pages have in their wards, in the order of their places.
use Rattle.std.proofs.Common.{◌≡◌, ℕ, zero, suc, ◌+◌, ◌<◌, nat_eq, Bool, true, false, cond, List, [], ◌∷◌, take, slice_get, inl, inr, Some, refl, sym, ap, ◌∙◌, arith}
use Rattle.std.proofs.lemmas.Bool.{cases_lt}
use Rattle.std.proofs.lemmas.Bool.Decides.{nat_tests}
use Rattle.std.proofs.lemmas.List.Sums.{sum_by-cons}
use Rattle.exh_prefix.specs.Leading.{ward_of}
use Rattle.exh_page.specs.declared.page.Page.{Page}
use Rattle.exh_page.specs.Page.{low_bound}
use Rattle.exh_cells.specs.Fit.{pages_in}
use Rattle.exh_cells.specs.LegalPlaced.{pages_of_ward}
use Rattle.exh_cells.specs.PlacedFile.{lows_of}

pub same_is : (n m : ℕ) → n ≡ m → nat_eq n m ≡ true
same_is n m same = grind (arith, nat_tests)

other_is : (n m : ℕ) → (n ≡ m → ⊥) → nat_eq n m ≡ false
other_is n m apart = grind (arith, nat_tests)

-- ---- low bounds and pages

pub low_at : (pages : List Page) (place : ℕ) (page : Page) → slice_get pages place ≡ Some page → slice_get (lows_of pages) place ≡ Some (low_bound page)
low_at [] place page is = cc
low_at (one ∷ pages) zero page is = let same : one ≡ page = cc in ap (λ (page : Page). Some (low_bound page)) same
low_at (one ∷ pages) (suc place) page is = low_at pages place page is

pub page_of_low : (pages : List Page) (place low : ℕ) → slice_get (lows_of pages) place ≡ Some low → (page : Page) × (slice_get pages place ≡ Some page) × (low_bound page ≡ low)
page_of_low [] place low is = cc
page_of_low (one ∷ pages) zero low is = (one, refl, (let same : low_bound one ≡ low = cc in same))
page_of_low (one ∷ pages) (suc place) low is = page_of_low pages place low is

pub page_at_number : (pages : List Page) (number : ℕ) (one other : Page) → slice_get pages number ≡ Some one → slice_get pages number ≡ Some other → one ≡ other
page_at_number pages number one other is too = let both : Some one ≡ Some other = sym is ∙ too in cc

module _ (bits ward : ℕ) where
  abbrev is_own : ℕ → Bool
  is_own low = nat_eq (ward_of bits low) ward

  counted_next : (low : ℕ) (lows : List ℕ) → pages_in bits ward (low ∷ lows) ≡ cond (is_own low) 1 0 + pages_in bits ward lows
  counted_next low lows = sum_by-cons (λ (low : ℕ). cond (is_own low) 1 0) low lows

  -- a page of the ward stands among the ward's at the number of those before it
  pub numbered : (pages : List Page) (place : ℕ) (page : Page) → slice_get pages place ≡ Some page → ward_of bits (low_bound page) ≡ ward
      → slice_get (pages_of_ward bits pages ward) (pages_in bits ward (take place (lows_of pages))) ≡ Some page
  numbered [] place page is own = cc
  numbered (one ∷ pages) zero page is own =
      let same : one ≡ page = cc in
      let here : is_own (low_bound one) ≡ true = same_is (ward_of bits (low_bound one)) ward (ap (λ (page : Page). ward_of bits (low_bound page)) same ∙ own) in
      rw here is
  numbered (one ∷ pages) (suc place) page is own =
      let more = numbered pages place page is own in
      let count = pages_in bits ward (take place (lows_of pages)) in
      let rest = pages_of_ward bits pages ward in
      let by_test : (b : Bool) → slice_get (cond b (one ∷ rest) rest) (cond b 1 0 + count) ≡ Some page = λ (b : Bool).
      elim b as (λ (b : Bool). slice_get (cond b (one ∷ rest) rest) (cond b 1 0 + count) ≡ Some page) [
        | true ↦ (let later : 1 + count ≡ suc count = omega arith in ap (slice_get (one ∷ rest)) later ∙ more)
        | false ↦ (let here : 0 + count ≡ count = omega arith in ap (slice_get rest) here ∙ more)
      ] in
      ap (slice_get (pages_of_ward bits (one ∷ pages) ward)) (counted_next (low_bound one) (take place (lows_of pages))) ∙ by_test (is_own (low_bound one))

  -- of two places of the ward the later one has the greater number
  counted_more : (lows : List ℕ) (one other low : ℕ) → one < other → slice_get lows one ≡ Some low → ward_of bits low ≡ ward → pages_in bits ward (take one lows) < pages_in bits ward (take other lows)
  counted_more [] one other low less is own = cc
  counted_more (first ∷ lows) one zero low less is own = absurd (omega (arith, less))
  counted_more (first ∷ lows) zero (suc other) low less is own =
      let same : first ≡ low = cc in
      let here : ◌≡◌ {A = ℕ} (cond (is_own first) 1 0) 1 = ap (λ (b : Bool). cond b 1 0) (same_is (ward_of bits first) ward (ap (ward_of bits) same ∙ own)) in
      omega (arith, here, counted_next first (take other lows))
  counted_more (first ∷ lows) (suc one) (suc other) low less is own =
      omega (arith, counted_next first (take one lows), counted_next first (take other lows), counted_more lows one other low (omega (arith, less)) is own)

  pub one_place : (lows : List ℕ) (one other low twin : ℕ) → slice_get lows one ≡ Some low → slice_get lows other ≡ Some twin → ward_of bits low ≡ ward → ward_of bits twin ≡ ward
      → pages_in bits ward (take one lows) ≡ pages_in bits ward (take other lows) → one ≡ other
  one_place lows one other low twin is too own own_too same = elim (cases_lt one other) [
    | inl less ↦ absurd (omega (arith, counted_more lows one other low less is own, same))
    | inr past ↦ elim (cases_lt other one) [
      | inl less ↦ absurd (omega (arith, counted_more lows other one twin less too own_too, same))
      | inr not ↦ omega (arith, past, not)
    ]
  ]

  -- none of the first places is the ward's
  pub none_counted : (lows : List ℕ) (count : ℕ) → ((place low : ℕ) → place < count → slice_get lows place ≡ Some low → ward_of bits low ≡ ward → ⊥) → pages_in bits ward (take count lows) ≡ 0
  none_counted lows zero none = refl
  none_counted [] (suc count) none = refl
  none_counted (first ∷ lows) (suc count) none =
      let here : ◌≡◌ {A = ℕ} (cond (is_own first) 1 0) 0 = ap (λ (b : Bool). cond b 1 0) (other_is (ward_of bits first) ward (none 0 first (omega arith) refl)) in
      omega (arith, here, counted_next first (take count lows), none_counted lows count (λ place low less is. none (suc place) low (omega (arith, less)) is))
