-- The range of places of the pseudokeys that a prefix begins, and arrays where such a range is filled.
use Rattle.std.proofs.Common.{◌≡◌, ℕ, ◌+◌, ◌-◌, ◌*◌, ◌/◌, ◌^◌, ◌<◌, ◌≤◌, ◌⊎◌, inl, inr, Bool, List, length, slice_get, Some, refl, sym, ap, ◌∙◌, arith}
use Rattle.std.proofs.Math.ListN.{set}
use Rattle.std.proofs.lemmas.Bool.Decides.{leb_tells}
use Rattle.std.proofs.Math.Nat.{mul_assoc, mul-le-mul_right}
use Rattle.std.proofs.lemmas.List.{length-set}
use Rattle.std.proofs.lemmas.Nat.{pow-add, pow_pos, shl-shr, div-mul-add}
use Rattle.exh_prefix.specs.Bits.{number_of}
use Rattle.exh_prefix.specs.BitLemmas.{number_of-lt}
use Rattle.exh_prefix.specs.Prefix.{Begins, low_of}
use Rattle.exh_prefix.specs.PrefixLemmas.{low_of-product, low_of-word}
use Rattle.exh_prefix.specs.Leading.{leading}
use Rattle.exh_array.specs.declared.pointer.Pointer.{Pointer}
use Rattle.exh_array.specs.Pointers.{PointerArray}
use Rattle.exh_array.specs.Pointers.{pointer_at}
use Rattle.exh_prefix.specs.PrefixListLemmas.{set_else}
use Rattle.exh_array.proofs.Pieces.{slice_get-set_same}
use Rattle.exh_prefix.specs.LeadingLemmas.{leading-lt, leading-quotient, leading-fewer, leading-of_begun, begins-from_leading}

-- how many places the range of a prefix has
abbrev pub room : ℕ → List Bool → ℕ
room depth prefix = 2 ^ (depth - length prefix)

module _ (depth : ℕ) (prefix : List Bool) (short : length prefix ≤ depth) (small : depth ≤ 64) where
  -- its first place
  first_place : leading depth (low_of prefix) ≡ number_of prefix * room depth prefix
  first_place =
      let parts : 64 - length prefix ≡ (depth - length prefix) + (64 - depth) = omega arith in
      sym (leading-quotient depth (low_of prefix) small (low_of-word prefix (omega arith)))
      ∙ ap (λ n. n / 2 ^ (64 - depth)) (low_of-product prefix ∙ ap (λ n. number_of prefix * 2 ^ n) parts ∙ ap (λ n. number_of prefix * n) (pow-add 2 (depth - length prefix) (64 - depth)) ∙ sym (mul_assoc (number_of prefix) (room depth prefix) (2 ^ (64 - depth))))
      ∙ shl-shr (number_of prefix * room depth prefix) (64 - depth)

  -- its end is within the array
  pub range_end : leading depth (low_of prefix) + room depth prefix ≤ 2 ^ depth
  range_end =
      let whole : 2 ^ (length prefix + (depth - length prefix)) ≡ 2 ^ length prefix * room depth prefix = pow-add 2 (length prefix) (depth - length prefix) in
      let parts : length prefix + (depth - length prefix) ≡ depth = omega arith in
      let most : (number_of prefix + 1) * room depth prefix ≤ 2 ^ length prefix * room depth prefix = mul-le-mul_right (room depth prefix) (omega (arith, number_of-lt prefix)) in
      omega (arith, first_place, most, whole, ap (λ n. 2 ^ n) parts)

  quotient : (pseudokey : ℕ) → leading depth pseudokey / room depth prefix ≡ leading (length prefix) pseudokey
  quotient pseudokey =
      let parts : length prefix + (depth - length prefix) ≡ depth = omega arith in
      ap (λ n. leading n pseudokey / room depth prefix) (sym parts) ∙ leading-fewer (length prefix) (depth - length prefix) pseudokey (omega arith)

  -- the pseudokeys that it begins stand there
  pub begun_within : (pseudokey : ℕ) → Begins prefix pseudokey → (leading depth (low_of prefix) ≤ leading depth pseudokey) × (leading depth pseudokey < leading depth (low_of prefix) + room depth prefix)
  begun_within pseudokey begins =
      let some : 0 < room depth prefix = pow_pos (depth - length prefix) in
      let is : room depth prefix * (leading depth pseudokey / room depth prefix) ≡ room depth prefix * number_of prefix = ap (λ n. room depth prefix * n) (quotient pseudokey ∙ leading-of_begun prefix pseudokey begins) in
      (omega (arith, first_place, is), omega (arith, first_place, is))

  -- and no others
  pub begins_within : (pseudokey : ℕ) → leading depth (low_of prefix) ≤ leading depth pseudokey → leading depth pseudokey < leading depth (low_of prefix) + room depth prefix → Begins prefix pseudokey
  begins_within pseudokey above below =
      let rest = leading depth pseudokey - leading depth (low_of prefix) in
      let parts : leading depth pseudokey ≡ number_of prefix * room depth prefix + rest = omega (arith, first_place) in
      begins-from_leading prefix pseudokey (omega arith) (sym (quotient pseudokey) ∙ ap (λ n. n / room depth prefix) parts ∙ div-mul-add (number_of prefix) (room depth prefix) rest (omega arith))

-- ---- an array filled as far as a place

-- from one place up to another there stands one pointer, and elsewhere what stood there
pub record IsFilled (old new : PointerArray) (from to : ℕ) (pointer : Pointer) : Type 0 where
  pub ward_bits : new.ward_bits ≡ old.ward_bits
  pub depth : new.depth ≡ old.depth
  pub full : length new.pointers ≡ length old.pointers
  pub inside : (k : ℕ) → from ≤ k → k < to → slice_get new.pointers k ≡ Some pointer
  pub outside : (k : ℕ) → k < length old.pointers → (k < from) ⊎ (to ≤ k) → slice_get new.pointers k ≡ slice_get old.pointers k

pub filled_none : (array : PointerArray) (from : ℕ) (pointer : Pointer) → IsFilled array array from from pointer
filled_none array from pointer = record { ward_bits = refl; depth = refl; full = refl; inside = λ k above below. absurd (omega arith); outside = λ k there past. refl }

pub filled_more : (old new : PointerArray) (from to : ℕ) (pointer : Pointer) → from ≤ to → to < length old.pointers → IsFilled old new from to pointer
    → IsFilled old (record new { pointers = set new.pointers to pointer }) from (to + 1) pointer
filled_more old new from to pointer begun within filled = record {
  ward_bits = filled.ward_bits;
  depth = filled.depth;
  full = length-set new.pointers to pointer ∙ filled.full;
  inside = λ k above below. elim (leb_tells to k) [
    | inl last ↦
        let here : k ≡ to = omega (arith, last.1) in
        ap (slice_get (set new.pointers to pointer)) here ∙ slice_get-set_same new.pointers to pointer (omega (arith, filled.full))
    | inr before ↦ set_else new.pointers to k pointer (λ same. omega (arith, before.1)) ∙ filled.inside k above (omega (arith, before.1))
  ];
  outside = λ k there past. elim past [
    | inl before ↦ set_else new.pointers to k pointer (λ same. omega arith) ∙ filled.outside k there (inl before)
    | inr behind ↦ set_else new.pointers to k pointer (λ same. omega arith) ∙ filled.outside k there (inr (omega arith))
  ];
}

-- where the range of a prefix is filled, its pseudokeys have the pointer, and all others what they had
module _ (old new : PointerArray) (prefix : List Bool) (from to : ℕ) (pointer : Pointer) (filled : IsFilled old new from to pointer) (short : length prefix ≤ old.depth) (small : old.depth ≤ 64) (full : length old.pointers ≡ 2 ^ old.depth)
    (first : from ≡ leading old.depth (low_of prefix)) (last : to ≡ from + room old.depth prefix) where
  pub filled_inside : (pseudokey : ℕ) → Begins prefix pseudokey → pointer_at new pseudokey ≡ Some pointer
  filled_inside pseudokey begins =
      let within = begun_within old.depth prefix short small pseudokey begins in
      ap (λ n. slice_get new.pointers (leading n pseudokey)) filled.depth ∙ filled.inside (leading old.depth pseudokey) (omega (arith, within.0)) (omega (arith, within.1))

  pub filled_outside : (pseudokey : ℕ) → (Begins prefix pseudokey → ⊥) → pointer_at new pseudokey ≡ pointer_at old pseudokey
  filled_outside pseudokey other =
      let place = leading old.depth pseudokey in
      ap (λ n. slice_get new.pointers (leading n pseudokey)) filled.depth
      ∙ filled.outside place (omega (arith, full, leading-lt old.depth pseudokey small)) (elim (leb_tells from place) [
        | inl above ↦ elim (leb_tells to place) [
          | inl behind ↦ inr behind.1
          | inr below ↦ absurd (other (begins_within old.depth prefix short small pseudokey (omega (arith, above.1)) (omega (arith, below.1))))
        ]
        | inr before ↦ inl (omega (arith, before.1))
      ])
