-- The most page faults that a ward has counted.
use Rattle.std.proofs.Common.{◌≡◌, ℕ, ◌+◌, ◌<◌, ◌≤◌, inl, inr, List, length, get_or, slice_get, Some, sym, ap, ◌∙◌, subst, arith}
use Rattle.std.proofs.lemmas.Bool.{cases_eq}
use Rattle.std.proofs.lemmas.Option.{slice_get-get_or}
use Rattle.exh_ward.specs.WardState.{WardState}

-- each of the first wards has counted at most so many, and unless they are none a store has
pub record HasMost {P K : Type 0} (failures : P → ℕ) (wards : List (WardState K)) (count most : ℕ) : Type 0 where
  pub above : (number : ℕ) (ward : WardState K) → number < count → slice_get wards number ≡ Some ward → ward.failures ≤ most
  pub counted : 0 < most → (store : P) × (failures store ≡ most)

module _ {P K : Type 0} (failures : P → ℕ) (wards : List (WardState K)) where
  pub none_most : HasMost failures wards 0 0
  none_most = record { above = λ number ward below there. absurd (omega (arith, below)); counted = λ some. absurd (omega (arith, some)) }

  module _ (count most : ℕ) (has : HasMost failures wards count most) (ward : WardState K) (room : count < length wards) (read : ward ≡ get_or wards count ward) where
    here : (other : WardState K) → slice_get wards count ≡ Some other → other ≡ ward
    here other there =
        let both : Some other ≡ Some (get_or wards count ward) = sym there ∙ slice_get-get_or wards count ward room in
        let same : other ≡ get_or wards count ward = cc in
        same ∙ sym read

    above_all : (after : ℕ) → most ≤ after → ward.failures ≤ after → (number : ℕ) (other : WardState K) → number < count + 1 → slice_get wards number ≡ Some other → other.failures ≤ after
    above_all after more own number other below there = elim (cases_eq number count) [
      | inl last ↦
          let is = here other (subst (λ n. slice_get wards n ≡ Some other) last there) in
          let counts = ap (λ (w : WardState K). w.failures) is in
          omega (arith, counts, own)
      | inr else ↦ let known = has.above number other (omega (arith, below, else)) there in omega (arith, known, more)
    ]

    -- the next ward has no more
    pub most_still : ward.failures ≤ most → HasMost failures wards (count + 1) most
    most_still own = record { above = above_all most (omega arith) own; counted = has.counted }

    -- or it has
    pub most_here : most < ward.failures → (store : P) → failures store ≡ ward.failures → HasMost failures wards (count + 1) ward.failures
    most_here more store is = record { above = above_all ward.failures (omega (arith, more)) (omega arith); counted = λ some. (store, is) }
