-- The pages and the table of a sound ward are where a ward can begin.
use Rattle.std.proofs.Common.{◌≡◌, ℕ, suc, ◌+◌, List, [], ◌∷◌, ◌++◌, take, slice_get, Some, sym, ap, ◌∙◌, subst, arith}
use Rattle.std.proofs.Math.Seq.{take-suc}
use Rattle.std.proofs.lemmas.Option.{get_or_from_slice_get, slice_get_within}
use Rattle.exh_prefix.specs.Leading.{ward_prefix}
use Rattle.exh_table.specs.Table.{TableMap}
use Rattle.exh_page.specs.declared.page.Page.{Page}
use Rattle.exh_legal.specs.LegalLaws.{FittingTablesBeginWards, IsWard}
use Rattle.exh_ward.specs.WardState.{WardState, IsSoundWard, own_prefix}

-- one page more
pub one_more : (pages : List Page) (number : ℕ) (page : Page) → slice_get pages number ≡ Some page → take (number + 1) pages ≡ take number pages ++ page ∷ []
one_more pages number page there =
    let next : number + 1 ≡ suc number = omega arith in
    ap (λ n. take n pages) next
    ∙ take-suc pages number page (slice_get_within pages number page there)
    ∙ ap (λ last. take number pages ++ last ∷ []) (get_or_from_slice_get pages number page page there)

pub begun : {K : Type 0} (begin : FittingTablesBeginWards) (pseudokey_of : K → List ℕ → ℕ) (ward : WardState K) (keyer : K) (table : TableMap) (pages : List Page)
    → IsSoundWard pseudokey_of ward → ward.cap ≡ 2 → ward.ward_bits ≡ 0 → ward.number ≡ 0 → ward.keyer ≡ keyer → table ≡ ward.table → pages ≡ ward.pages
    → IsWard 2 (pseudokey_of keyer) (ward_prefix 0 0) table [] table pages
begun begin pseudokey_of ward keyer table pages sound cap bits number key table_is pages_is =
    let own : own_prefix ward ≡ ward_prefix 0 0 = ap (λ n. ward_prefix n ward.number) bits ∙ ap (ward_prefix 0) number in
    let first = begin ward.cap (pseudokey_of ward.keyer) (own_prefix ward) ward.table ward.pages sound.legal.legal.legal sound.legal.fits in
    let of_cap = subst (λ n. IsWard n (pseudokey_of ward.keyer) (own_prefix ward) ward.table [] ward.table ward.pages) cap first in
    let of_keyer = subst (λ k. IsWard 2 (pseudokey_of k) (own_prefix ward) ward.table [] ward.table ward.pages) key of_cap in
    let of_prefix = subst (λ p. IsWard 2 (pseudokey_of keyer) p ward.table [] ward.table ward.pages) own of_keyer in
    let of_table = subst (λ t. IsWard 2 (pseudokey_of keyer) (ward_prefix 0 0) t [] t ward.pages) (sym table_is) of_prefix in
    subst (λ p. IsWard 2 (pseudokey_of keyer) (ward_prefix 0 0) table [] table p) (sym pages_is) of_table
