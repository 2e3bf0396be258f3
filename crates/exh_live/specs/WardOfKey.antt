-- To which of a file's wards a key belongs.
use Rattle.std.specs.Prelude.{ℕ, List, [], ◌∷◌}
use Rattle.exh_prefix.specs.Leading.{ward_of}
use Rattle.exh_ward.specs.WardState.{WardState}

-- that of its pseudokey, by the keyer and the ward bits of the first one; where there is none, that of the number 0
abbrev pub ward_in : {K : Type 0} → (K → List ℕ → ℕ) → List (WardState K) → List ℕ → ℕ
ward_in pseudokey_of [] key = 0
ward_in pseudokey_of (ward ∷ wards) key = ward_of ward.ward_bits (pseudokey_of ward.keyer key)
