-- Pages put into a list, and the number of the one page that passes a test.
use Rattle.std.proofs.Common.{◌≡◌, ℕ, zero, suc, ◌<◌, ◌≤◌, Bool, true, false, ◌+◌, ◌⊎◌, List, [], ◌∷◌, length, slice_get, inl, inr, refl, sym, ap, ◌∙◌, subst, arith}
use Rattle.std.specs.List.{position_or_len}
use Rattle.std.proofs.lemmas.Bool.{cases_eq, false≢true, false_from_ne_true}
use Rattle.exh_page.specs.declared.page.Page.{Page}
use Rattle.exh_legal.specs.Pages.{IsAt}
use Rattle.exh_ward.specs.PlacedPages.{with_page}

-- ---- a page put at a number

pub put_here : (pages : List Page) (number : ℕ) (page : Page) → number ≤ length pages → IsAt (with_page number page pages) number page
put_here [] zero page within = refl
put_here [] (suc number) page within = absurd (omega arith)
put_here (first ∷ pages) zero page within = refl
put_here (first ∷ pages) (suc number) page within = put_here pages number page (omega arith)

pub put_else : (pages : List Page) (number other : ℕ) (page : Page) → number ≤ length pages → (other ≡ number → ⊥) → slice_get (with_page number page pages) other ≡ slice_get pages other
put_else [] zero zero page within differ = absurd (differ refl)
put_else [] zero (suc other) page within differ = refl
put_else [] (suc number) other page within differ = absurd (omega arith)
put_else (first ∷ pages) zero zero page within differ = absurd (differ refl)
put_else (first ∷ pages) zero (suc other) page within differ = refl
put_else (first ∷ pages) (suc number) zero page within differ = refl
put_else (first ∷ pages) (suc number) (suc other) page within differ = put_else pages number other page (omega arith) (λ same. differ (ap suc same))

pub put_length : (pages : List Page) (number : ℕ) (page : Page) → number < length pages → length (with_page number page pages) ≡ length pages
put_length [] number page within = absurd (omega arith)
put_length (first ∷ pages) zero page within = refl
put_length (first ∷ pages) (suc number) page within = ap suc (put_length pages number page (omega arith))

pub put_last : (pages : List Page) (page : Page) → length (with_page (length pages) page pages) ≡ length pages + 1
put_last [] page = refl
put_last (first ∷ pages) page = ap suc (put_last pages page) ∙ omega arith

-- lists of the same page at each number are one
same_pages : (one other : List Page) → ((number : ℕ) → slice_get one number ≡ slice_get other number) → one ≡ other
same_pages [] [] same = refl
same_pages [] (page ∷ other) same = let here = same 0 in cc
same_pages (page ∷ one) [] same = let here = same 0 in cc
same_pages (page ∷ one) (twin ∷ other) same =
    let here = same 0 in
    let rest = same_pages one other (λ number. same (suc number)) in
    cc

-- what two pages were put into, and nothing else
pub both_put : (pages new : List Page) (at other : ℕ) (page twin : Page) → at < length pages → other ≤ length pages → IsAt new at page → IsAt new other twin
    → ((number : ℕ) → (number ≡ at → ⊥) → (number ≡ other → ⊥) → slice_get new number ≡ slice_get pages number) → new ≡ with_page other twin (with_page at page pages)
both_put pages new at other page twin within fits is too others =
    let room : other ≤ length (with_page at page pages) = omega (arith, put_length pages at page within) in
    same_pages new (with_page other twin (with_page at page pages)) (λ number.
    elim (cases_eq number other) [
      | inl same ↦ ap (slice_get new) same ∙ too ∙ sym (put_here (with_page at page pages) other twin room) ∙ ap (slice_get (with_page other twin (with_page at page pages))) (sym same)
      | inr differ ↦ sym (put_else (with_page at page pages) other number twin room differ ∙ elim (cases_eq number at) as (λ _. slice_get (with_page at page pages) number ≡ slice_get new number) [
        | inl same ↦ ap (slice_get (with_page at page pages)) same ∙ put_here pages at page (omega arith) ∙ sym is ∙ ap (slice_get new) (sym same)
        | inr else ↦ put_else pages at number page (omega arith) else ∙ sym (others number else differ)
      ])
    ])

-- ---- the page that passes a test

module _ (test : Page → Bool) where
  fails_first : (first : Page) (pages : List Page) → test first ≡ false → position_or_len test (first ∷ pages) ≡ suc (position_or_len test pages)
  fails_first first pages fails = rw fails (omega arith)

  pub number_of_one : (pages : List Page) (number : ℕ) (page : Page) → IsAt pages number page → test page ≡ true → ((other : ℕ) (twin : Page) → IsAt pages other twin → test twin ≡ true → other ≡ number)
      → position_or_len test pages ≡ number
  number_of_one [] number page is passes one = cc
  number_of_one (first ∷ pages) zero page is passes one =
      let same : first ≡ page = cc in
      rw (same, passes) refl
  number_of_one (first ∷ pages) (suc number) page is passes one =
      let fails : test first ≡ false = false_from_ne_true _ (λ too. absurd (omega (arith, one 0 first refl too))) in
      fails_first first pages fails ∙ ap suc (number_of_one pages number page is passes (λ other twin there too. omega (arith, one (suc other) twin there too)))

  pub number_of_none : (pages : List Page) → ((number : ℕ) (page : Page) → IsAt pages number page → test page ≡ true → ⊥) → position_or_len test pages ≡ length pages
  number_of_none [] none = refl
  number_of_none (first ∷ pages) none =
      fails_first first pages (false_from_ne_true _ (none 0 first refl)) ∙ ap suc (number_of_none pages (λ number. none (suc number)))

  -- the number is that of a page that passes, or no page passes
  abbrev pub IsFirst : List Page → ℕ → Type 0
  IsFirst pages number = ((page : Page) × IsAt pages number page × (test page ≡ true)) ⊎ ((number ≡ length pages) × ((other : ℕ) (page : Page) → IsAt pages other page → test page ≡ true → ⊥))

  first_of_more : (first : Page) (pages : List Page) (number : ℕ) → test first ≡ false → IsFirst pages number → IsFirst (first ∷ pages) (suc number)
  first_of_more first pages number fails (inl is) = inl is
  first_of_more first pages number fails (inr (past, none)) = inr (ap suc past, λ other page is passes. none_of_more other page is passes) where
    none_of_more : (other : ℕ) (page : Page) → IsAt (first ∷ pages) other page → test page ≡ true → ⊥
    none_of_more zero page is passes = let same : first ≡ page = cc in false≢true (sym fails ∙ ap test same ∙ passes)
    none_of_more (suc other) page is passes = none other page is passes

  pub is_first : (pages : List Page) → IsFirst pages (position_or_len test pages)
  is_first [] = inr (refl, λ other page is passes. cc)
  is_first (first ∷ pages) =
      elim (test first) as (λ b. test first ≡ b → IsFirst (first ∷ pages) (position_or_len test (first ∷ pages))) [
        | true ↦ λ passes. let here : position_or_len test (first ∷ pages) ≡ 0 = rw passes refl in subst (IsFirst (first ∷ pages)) (sym here) (inl (first, refl, passes))
        | false ↦ λ fails. subst (IsFirst (first ∷ pages)) (sym (fails_first first pages fails)) (first_of_more first pages (position_or_len test pages) fails (is_first pages))
      ] refl
