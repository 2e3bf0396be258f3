-- Decoded pages of which one is let go.
use Rattle.std.proofs.Common.{◌≡◌, ◌≢◌, ◌⊎◌, ℕ, zero, suc, ◌+◌, ◌<◌, Bool, true, false, cond, nat_eq, List, [], ◌∷◌, ◌++◌, length, set, slice_get, Option, Some, None, inl, inr, refl, sym, ap, ◌∙◌, arith}
use Rattle.std.specs.Prelude.{is_some, IsSome, IfSome, Result, Ok, Err, OnOk}
use Rattle.std.specs.Result.{is_ok}
use Rattle.std.proofs.lemmas.Bool.{cases_eq, eq-eqb, eqb-true}
use Rattle.std.proofs.lemmas.List.{length-append, length-set}
use Rattle.exh_page.specs.declared.page.Page.{Page}
use Rattle.exh_frames.specs.Decoded.{AreFound, AreOf, Decoded, KeptPages, beside_at, decoded_at, first_of, kept_at}

get_set_other : (pages : List Page) (number other : ℕ) (page : Page) → other ≢ number → slice_get (set pages number page) other ≡ slice_get pages other
get_set_other [] number other page differ = refl
get_set_other (first ∷ pages) zero zero page differ = absurd (differ refl)
get_set_other (first ∷ pages) zero (suc other) page differ = refl
get_set_other (first ∷ pages) (suc number) zero page differ = refl
get_set_other (first ∷ pages) (suc number) (suc other) page differ = get_set_other pages number other page (λ same. differ (ap suc same))

-- a page that is written here and decoded no more
pub let_go : (pages : List Page) (old new : Decoded) (number : ℕ) (page : Page) → AreFound pages (λ (n : ℕ). decoded_at n old) → decoded_at number new ≡ None
    → ((other : ℕ) → other ≢ number → decoded_at other new ≡ decoded_at other old) → AreFound (set pages number page) (λ (n : ℕ). decoded_at n new)
let_go pages old new number page are gone others other found is = elim (cases_eq other number) [
  | inl same ↦ let none : decoded_at other new ≡ None = ap (λ (n : ℕ). decoded_at n new) same ∙ gone in cc
  | inr differ ↦ get_set_other pages number other page differ ∙ are other found (sym (others other differ) ∙ is)
]

-- there is a page of each number below their count
pub page_there : (pages : List Page) (number : ℕ) → number < length pages → (page : Page) × (slice_get pages number ≡ Some page)
page_there [] number within = absurd (omega arith)
page_there (first ∷ pages) zero within = (first, refl)
page_there (first ∷ pages) (suc number) within = page_there pages number (omega arith)

-- a write among the first ones
pub set_front : (pages others : List Page) (number : ℕ) (page : Page) → number < length pages → set (pages ++ others) number page ≡ set pages number page ++ others
set_front [] others number page within = absurd (omega arith)
set_front (first ∷ pages) others zero page within = refl
set_front (first ∷ pages) others (suc number) page within = ap (λ (rest : List Page). first ∷ rest) (set_front pages others number page (omega arith))

-- pages to which more are added
among : (pages more : List Page) (look_up : ℕ → Option Page) → AreFound pages look_up → AreFound (pages ++ more) look_up
among pages more look_up are number page is = stays pages number (are number page is)
  where
    stays : (front : List Page) (n : ℕ) → slice_get front n ≡ Some page → slice_get (front ++ more) n ≡ Some page
    stays [] n there = cc
    stays (first ∷ front) zero there = there
    stays (first ∷ front) (suc n) there = stays front n there

-- what was decoded and what is kept beside it
pub kept_beside : (pages : List Page) (old new : Decoded) (number : ℕ) (page : Page) → AreFound pages (λ (n : ℕ). decoded_at n old) → slice_get pages number ≡ Some page → decoded_at number new ≡ Some page
    → ((other : ℕ) (found : Page) → other ≢ number → decoded_at other new ≡ Some found → decoded_at other old ≡ Some found) → AreFound pages (λ (n : ℕ). decoded_at n new)
kept_beside pages old new number page are there kept others other found is = elim (cases_eq other number) [
  | inl same ↦
      let also : decoded_at number new ≡ Some found = ap (λ (n : ℕ). decoded_at n new) (sym same) ∙ is in
      ap (slice_get pages) same ∙ there ∙ sym kept ∙ also
  | inr differ ↦ are other found (others other found differ is)
]

-- ---- pages of the cache, and the one beside it

first_is : (one other : Option Page) (page : Page) → first_of one other ≡ Some page → (one ≡ Some page) ⊎ (other ≡ Some page)
first_is (Some found) other page is = inl is
first_is None other page is = inr is

-- a decoded page is that of its number
pub kept_is : (pages : List Page) (kept : KeptPages) (number : ℕ) (page : Page) → AreOf pages kept → kept_at number kept ≡ Some page → slice_get pages number ≡ Some page
kept_is pages kept number page are is = elim (first_is (decoded_at number kept.recent) (beside_at number kept.beside) page is) [
  | inl recent ↦ are.recent number page recent
  | inr beside ↦ are.beside number page beside
]

pub some_first : (one other : Option Page) → is_some one ≡ true → IsSome (first_of one other)
some_first (Some page) other some = refl
some_first None other some = cc

pub some_second : (one : Option Page) (page : Page) → IsSome (first_of one (Some page))
some_second (Some found) page = refl
some_second None page = refl

pub is_first : (one other : Option Page) → is_some one ≡ true → is_some (first_of one other) ≡ true
is_first (Some page) other some = refl
is_first None other some = cc

pub no_first : (one other : Option Page) → is_some one ≡ false → first_of one other ≡ other
no_first (Some page) other none = cc
no_first None other none = refl

-- none beside it
pub none_beside : (pages : List Page) → AreFound pages (λ (n : ℕ). beside_at n None)
none_beside pages number page is = cc

-- one page beside it
pub one_beside : (pages : List Page) (number : ℕ) (page : Page) → slice_get pages number ≡ Some page → AreFound pages (λ (n : ℕ). beside_at n (Some (number, page)))
one_beside pages number page there other found is = elim (nat_eq other number) as (λ b. nat_eq other number ≡ b → cond b (Some page) None ≡ Some found → slice_get pages other ≡ Some found) [
  | true ↦ λ same here. ap (slice_get pages) (eqb-true other number same) ∙ there ∙ here
  | false ↦ λ differ none. cc
] refl is

pub beside_here : (number : ℕ) (page : Page) → beside_at number (Some (number, page)) ≡ Some page
beside_here number page = ap (λ (b : Bool). cond b (Some page) None) (eq-eqb number number refl)

-- the same look-ups
pub same_found : (pages : List Page) (old new : Decoded) → ((n : ℕ) → decoded_at n new ≡ decoded_at n old) → AreFound pages (λ (n : ℕ). decoded_at n old) → AreFound pages (λ (n : ℕ). decoded_at n new)
same_found pages old new same are number page is = are number page (sym (same number) ∙ is)

-- a page that is taken out is that of its number
pub taken_is : (found : Option Page) (kept : KeptPages) (number : ℕ) → found ≡ decoded_at number kept.recent → IfSome found (λ (page : Page). (pages : List Page) → AreOf pages kept → slice_get pages number ≡ Some page)
taken_is None kept number is = tt
taken_is (Some page) kept number is = λ pages are. are.recent number page (sym is)

-- the pages, of which one is written, and the one that is decoded of it
pub set_there : (pages : List Page) (number : ℕ) (page : Page) → number < length pages → slice_get (set pages number page) number ≡ Some page
set_there [] number page within = absurd (omega (arith, within))
set_there (first ∷ pages) zero page within = refl
set_there (first ∷ pages) (suc number) page within = set_there pages number page (omega (arith, within))

-- pages to which more are added
pub kept_more : (pages more : List Page) (kept : KeptPages) → AreOf pages kept → AreOf (pages ++ more) kept
kept_more pages more kept are = record { recent = among pages more (λ n. decoded_at n kept.recent) are.recent; beside = among pages more (λ n. beside_at n kept.beside) are.beside }

-- no decoded pages
pub none_kept : (pages : List Page) (cap : ℕ) → AreOf pages (record { recent = []; beside = None; cap = cap })
none_kept pages cap = record { recent = λ number page is. cc; beside = none_beside pages }

-- pages of which one is written, and the decoded ones with it
pub written : (pages : List Page) (mid new : KeptPages) (number : ℕ) (page : Page) → number < length pages → AreOf (set pages number page) mid
    → ((all : List Page) → slice_get all number ≡ Some page → AreOf all mid → AreOf all new) → AreOf (set pages number page) new
written pages mid new number page within are keeps = keeps (set pages number page) (set_there pages number page within) are

-- what holds of a call that succeeded
pub on_ok : {V E : Type 0} (P : Type 0) (result : Result V E) → is_ok result ≡ true → OnOk result P → P
on_ok P (Ok value) good holds = holds
on_ok P (Err fault) good holds = cc

-- as many pages as before
pub set_within : (pages : List Page) (one two number : ℕ) (page other : Page) → number < length pages → number < length (set (set pages one page) two other)
set_within pages one two number page other within = omega (arith, within, length-set pages one page, length-set (set pages one page) two other)

pub added_within : (pages : List Page) (one number : ℕ) (page other : Page) → number < length pages + 1 → number < length (set pages one page ++ other ∷ [])
added_within pages one number page other within = omega (arith, within, length-set pages one page, length-append (set pages one page) (other ∷ []))
