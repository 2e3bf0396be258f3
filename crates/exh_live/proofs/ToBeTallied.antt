-- The wards that a live file begins with.
use Rattle.std.proofs.Common.{◌≡◌, ℕ, ◌+◌, List, [], ◌∷◌, slice_get, Some, ◌^◌, ◌<◌, ◌≤◌, zero, suc, refl, sym, ap, ◌∙◌, arith}
use Rattle.exh_ward.specs.WardState.{WardState}
use Rattle.exh_live.specs.LiveFile.{AreToBeTallied}

-- wards that answered nothing, have the file's keyer and stand in order can be entered, from a number on
pub to_be_tallied : {K : Type 0} (pseudokey_of : K → List ℕ → ℕ) (pseudo : List ℕ → ℕ) (keyer : K) → pseudo ≡ pseudokey_of keyer → (first : ℕ) (wards : List (WardState K))
    → ((place : ℕ) (ward : WardState K) → slice_get wards place ≡ Some ward → (ward.journal ≡ []) × (ward.keyer ≡ keyer) × (ward.number ≡ first + place)) → AreToBeTallied pseudokey_of pseudo first wards
to_be_tallied pseudokey_of pseudo keyer same first [] each = tt
to_be_tallied pseudokey_of pseudo keyer same first (ward ∷ wards) each =
    let here = each 0 ward refl in (
      here.0,
      ap pseudokey_of here.1 ∙ sym same,
      omega (arith, here.2),
      to_be_tallied pseudokey_of pseudo keyer same (first + 1) wards (λ place other at. let there = each (suc place) other at in (there.0, there.1, omega (arith, there.2))),
    )

-- a file has fewer wards than its ledger of entries has parts
pub wards_are_few : (ward_bits : ℕ) → ward_bits ≤ 4 → 2 ^ ward_bits < 17
wards_are_few zero within = omega arith
wards_are_few (suc zero) within = omega arith
wards_are_few (suc (suc zero)) within = omega arith
wards_are_few (suc (suc (suc zero))) within = omega arith
wards_are_few (suc (suc (suc (suc zero)))) within = omega arith
wards_are_few (suc (suc (suc (suc (suc n))))) within = absurd (omega arith)
