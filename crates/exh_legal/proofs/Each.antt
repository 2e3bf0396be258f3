-- What is asked of one page after the other.
use Rattle.std.proofs.Common.{ℕ, ◌+◌, ◌<◌, ◌≤◌, List, length, inl, inr, subst, arith}
use Rattle.std.proofs.lemmas.Bool.{cases_eq}
use Rattle.std.proofs.lemmas.Option.{slice_get_within}
use Rattle.exh_page.specs.declared.page.Page.{Page}
use Rattle.exh_legal.specs.Pages.{IsAt}
use Rattle.exh_legal.proofs.Index.{same_page}

-- it holds of the pages before a number
abbrev pub EachBelow : (Page → Type 0) → List Page → ℕ → Type 0
EachBelow P pages count = (number : ℕ) (page : Page) → number < count → IsAt pages number page → P page

pub each_more : (P : Page → Type 0) (pages : List Page) (count : ℕ) → EachBelow P pages count → (page : Page) → IsAt pages count page → P page → EachBelow P pages (count + 1)
each_more P pages count each page is holds number other less there = elim (cases_eq number count) [
  | inl last ↦ subst P (same_page pages count page other is (subst (λ n. IsAt pages n other) last there)) holds
  | inr before ↦ each number other (omega (arith, less, before)) there
]

pub each_all : (P : Page → Type 0) (pages : List Page) (count : ℕ) → length pages ≤ count → EachBelow P pages count → (number : ℕ) (page : Page) → IsAt pages number page → P page
each_all P pages count all each number page is = each number page (omega (arith, all, slice_get_within pages number page is)) is
