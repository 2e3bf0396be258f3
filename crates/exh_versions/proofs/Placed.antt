-- Pages that are put one after the other.
use Rattle.std.proofs.Common.{◌≡◌, ℕ, ◌<◌, ◌≤◌, ◌^◌, eq-eqb, nat_eq, Bool, false, cond, List, [], ◌∷◌, ◌++◌, length, ap, ◌∙◌, append-nil, inl, inr, arith}
use Rattle.std.proofs.lemmas.Bool.Decides.{eqb_tells}
use Rattle.std.proofs.lemmas.List.Elements.{filter-append}
use Rattle.std.proofs.lemmas.List.Sums.{length-filter, count_by-le-length}
use Rattle.exh_prefix.specs.Leading.{ward_of}
use Rattle.exh_prefix.specs.LeadingLemmas.{leading-lt}
use Rattle.exh_page.specs.declared.page.Page.{Page}
use Rattle.exh_page.specs.Page.{low_bound}
use Rattle.exh_cells.specs.LegalPlaced.{pages_of_ward}

pub ward_within : (ward_bits low : ℕ) → ward_bits ≤ 4 → ward_of ward_bits low < 2 ^ ward_bits
ward_within ward_bits low few = leading-lt ward_bits low (omega (arith, few))

not_eqb : (one other : ℕ) → (one ≡ other → ⊥) → nat_eq one other ≡ false
not_eqb one other differ = elim (eqb_tells one other) [ inl same ↦ absurd (differ same.1) | inr else ↦ else.0 ]

-- one page more is one of its ward, and none of another
pub of_ward_more : (ward_bits : ℕ) (pages : List Page) (page : Page) (ward : ℕ) → ward_of ward_bits (low_bound page) ≡ ward → pages_of_ward ward_bits (pages ++ page ∷ []) ward ≡ pages_of_ward ward_bits pages ward ++ page ∷ []
of_ward_more ward_bits pages page ward is =
    let own = λ (page : Page). nat_eq (ward_of ward_bits (low_bound page)) ward in
    filter-append own pages (page ∷ []) ∙ ap (λ (mine : Bool). pages_of_ward ward_bits pages ward ++ cond mine (page ∷ []) []) (eq-eqb (ward_of ward_bits (low_bound page)) ward is)

pub of_ward_else : (ward_bits : ℕ) (pages : List Page) (page : Page) (ward : ℕ) → (ward_of ward_bits (low_bound page) ≡ ward → ⊥) → pages_of_ward ward_bits (pages ++ page ∷ []) ward ≡ pages_of_ward ward_bits pages ward
of_ward_else ward_bits pages page ward other =
    let own = λ (page : Page). nat_eq (ward_of ward_bits (low_bound page)) ward in
    filter-append own pages (page ∷ []) ∙ ap (λ (mine : Bool). pages_of_ward ward_bits pages ward ++ cond mine (page ∷ []) []) (not_eqb (ward_of ward_bits (low_bound page)) ward other)
    ∙ append-nil (pages_of_ward ward_bits pages ward)

-- a ward has no more pages than the file
pub of_ward_few : (ward_bits : ℕ) (pages : List Page) (ward : ℕ) → length (pages_of_ward ward_bits pages ward) ≤ length pages
of_ward_few ward_bits pages ward =
    let own = λ (page : Page). nat_eq (ward_of ward_bits (low_bound page)) ward in
    omega (arith, length-filter own pages, count_by-le-length own pages)
