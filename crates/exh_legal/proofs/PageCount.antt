-- Pages within a ward, no two of one low bound, are no more than there are prefixes of LIMIT bits in it.
use Rattle.std.proofs.Common.{◌≡◌, ℕ, suc, ◌+◌, ◌-◌, ◌*◌, ◌/◌, ◌^◌, ◌<◌, ◌≤◌, Bool, true, false, eqb, List, [], ◌∷◌, length, take, map, inl, inr, refl, sym, ap, ◌∙◌, subst, arith}
use Rattle.std.specs.List.{AllByRecursion, IsDistinct, list_any}
use Rattle.std.proofs.lemmas.Bool.{ne_eqb, eqb-true, or_cases}
use Rattle.std.proofs.lemmas.List.{length-map}
use Rattle.std.proofs.lemmas.Map.Steps.{length-le_from_distinct_below}
use Rattle.std.proofs.lemmas.Nat.{pow-add, pow_pos}
use Rattle.std.proofs.Math.Nat.{mul_assoc, mul-div_cancel, div-lt_iff_lt-mul}
use Rattle.exh_prefix.specs.declared.prefix.TheConstants.{LIMIT}
use Rattle.exh_prefix.specs.Bits.{number_of, word_bits}
use Rattle.exh_prefix.specs.Prefix.{Begins, low_of}
use Rattle.exh_prefix.specs.PrefixLemmas.{begins_low, low_of-product, low_of-stored, length-stored, front_of_front}
use Rattle.exh_page.specs.declared.page.Page.{Page}
use Rattle.exh_page.specs.declared.page.Page.TheVariants.{Live, Forward}
use Rattle.exh_page.specs.Page.{low_bound}
use Rattle.exh_legal.specs.Pages.{IsAt, IsWithin}
use Rattle.exh_prefix.specs.LowLemmas.{front_shorter, begins_own_low, low_of-small}

-- ---- numbers that differ, one a page

alike_none : (f : Page → ℕ) (page : Page) (pages : List Page) → ((number : ℕ) (other : Page) → IsAt pages number other → f page ≡ f other → ⊥) → AllByRecursion (λ y. eqb (f page) y ≡ false) (map f pages)
alike_none f page [] differ = tt
alike_none f page (other ∷ pages) differ = (ne_eqb (f page) (f other) (differ 0 other refl), alike_none f page pages (λ number. differ (suc number)))

distinct : (f : Page → ℕ) (pages : List Page) → ((one other : ℕ) (page twin : Page) → IsAt pages one page → IsAt pages other twin → f page ≡ f twin → one ≡ other) → IsDistinct eqb (map f pages)
unfolding IsDistinct
distinct f [] apart = tt
distinct f (page ∷ pages) apart = (
  alike_none f page pages (λ number other is same. let clash : 0 ≡ suc number = apart 0 (suc number) page other refl is same in absurd (omega (arith, clash))),
  distinct f pages (λ one other p t is too same. let both : suc one ≡ suc other = apart (suc one) (suc other) p t is too same in omega (arith, both)),
)

below : (f : Page → ℕ) (most : ℕ) (pages : List Page) → ((number : ℕ) (page : Page) → IsAt pages number page → f page < most) → (q : ℕ) → list_any (eqb q) (map f pages) ≡ true → q < most
below f most [] each q any = cc
below f most (page ∷ pages) each q any = elim (or_cases (eqb q (f page)) (list_any (eqb q) (map f pages)) any) [
  | inl here ↦ omega (arith, eqb-true q (f page) here, each 0 page refl)
  | inr rest ↦ below f most pages (λ number. each (suc number)) q rest
]

pub few_pages : (f : Page → ℕ) (most : ℕ) (pages : List Page) → ((one other : ℕ) (page twin : Page) → IsAt pages one page → IsAt pages other twin → f page ≡ f twin → one ≡ other) → ((number : ℕ) (page : Page) → IsAt pages number page → f page < most)
    → length pages ≤ most
few_pages f most pages apart each =
    omega (arith, length-le_from_distinct_below (map f pages) most (distinct f pages apart) (below f most pages each), length-map pages f)

-- ---- the place of a page among the prefixes of LIMIT bits

abbrev unit : ℕ
unit = 2 ^ (64 - LIMIT)

-- a low bound is so many prefixes of LIMIT bits
abbrev IsWhole : ℕ → Type 0
IsWhole low = (n : ℕ) × (low ≡ n * unit)

whole_low : (prefix : List Bool) → length prefix ≤ LIMIT → IsWhole (low_of prefix)
whole_low prefix short =
    let more : 64 - length prefix ≡ (LIMIT - length prefix) + (64 - LIMIT) = omega arith in
    let spread : 2 ^ (64 - length prefix) ≡ 2 ^ (LIMIT - length prefix) * 2 ^ (64 - LIMIT) = ap (λ n. 2 ^ n) more ∙ pow-add 2 (LIMIT - length prefix) (64 - LIMIT) in
    (number_of prefix * 2 ^ (LIMIT - length prefix), low_of-product prefix ∙ ap (λ n. number_of prefix * n) spread ∙ sym (mul_assoc (number_of prefix) (2 ^ (LIMIT - length prefix)) (2 ^ (64 - LIMIT))))

page_whole : (ward : List Bool) (page : Page) → IsWithin ward page → IsWhole (low_bound page)
page_whole ward (Live prefix right records) within = whole_low prefix within.1
page_whole ward (Forward low target) within =
    subst IsWhole (low_of-stored LIMIT low within.0 within.2) (whole_low (take LIMIT (word_bits low)) (omega (arith, length-stored LIMIT low within.2)))

page_begun : (ward : List Bool) (page : Page) → IsWithin ward page → Begins ward (low_bound page) × (low_bound page < 2 ^ 64)
page_begun ward (Live prefix right records) within = (front_of_front ward prefix _ (front_shorter ward prefix within.0) within.0 (begins_own_low prefix within.1), low_of-small prefix within.1)
page_begun ward (Forward low target) within = (within.1, within.0)

same_quotient : (a b : ℕ) → IsWhole a → IsWhole b → a / unit ≡ b / unit → a ≡ b
same_quotient a b (m, am) (n, bn) same =
    let left : a / unit ≡ m = ap (λ x. x / unit) am ∙ mul-div_cancel m (pow_pos (64 - LIMIT)) in
    let right : b / unit ≡ n = ap (λ x. x / unit) bn ∙ mul-div_cancel n (pow_pos (64 - LIMIT)) in
    am ∙ ap (λ x. x * unit) (sym left ∙ same ∙ right) ∙ sym bn

difference_whole : (a b : ℕ) → IsWhole a → IsWhole b → b ≤ a → IsWhole (a - b)
difference_whole a b (m, am) (n, bn) less = (m - n, omega (arith, am, bn))

module _ {ward : List Bool} (pages : List Page) (short : length ward ≤ LIMIT) (all_within : (number : ℕ) (page : Page) → IsAt pages number page → IsWithin ward page)
    (apart : (one other : ℕ) (page twin : Page) → IsAt pages one page → IsAt pages other twin → low_bound page ≡ low_bound twin → one ≡ other) where
  place : Page → ℕ
  place page = (low_bound page - low_of ward) / unit

  ward_whole : IsWhole (low_of ward)
  ward_whole = whole_low ward short

  reach : (number : ℕ) (page : Page) → IsAt pages number page → (low_of ward ≤ low_bound page) × (low_bound page < low_of ward + 2 ^ (64 - length ward))
  reach number page is =
      let begun = page_begun ward page (all_within number page is) in
      begins_low ward (low_bound page) (omega (arith, short)) begun.1 begun.0

  places_apart : (one other : ℕ) (page twin : Page) → IsAt pages one page → IsAt pages other twin → place page ≡ place twin → one ≡ other
  unfolding place
  places_apart one other page twin is too same =
      let first = reach one page is in
      let second = reach other twin too in
      let same_low = same_quotient (low_bound page - low_of ward) (low_bound twin - low_of ward)
      (difference_whole _ _ (page_whole ward page (all_within one page is)) ward_whole first.0) (difference_whole _ _ (page_whole ward twin (all_within other twin too)) ward_whole second.0) same in
      apart one other page twin is too (omega (arith, same_low, first.0, second.0))

  places_below : (number : ℕ) (page : Page) → IsAt pages number page → place page < 2 ^ (LIMIT - length ward)
  unfolding place
  places_below number page is =
      let within = reach number page is in
      let more : 64 - length ward ≡ (LIMIT - length ward) + (64 - LIMIT) = omega (arith, short) in
      let spread : 2 ^ (64 - length ward) ≡ 2 ^ (LIMIT - length ward) * unit = ap (λ n. 2 ^ n) more ∙ pow-add 2 (LIMIT - length ward) (64 - LIMIT) in
      (div-lt_iff_lt-mul (pow_pos (64 - LIMIT))).1 (omega (arith, within, spread))

  pub page_count : length pages ≤ 2 ^ (LIMIT - length ward)
  page_count = few_pages place (2 ^ (LIMIT - length ward)) pages places_apart places_below
