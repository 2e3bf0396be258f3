-- Leading bits of pseudokeys as numbers, the first pseudokey that has some, and wards by them.
use Rattle.std.specs.Prelude.{ℕ, ◌-◌, ◌*◌, ◌^◌, Bool, List, take}
use Rattle.exh_prefix.specs.Bits.{number_of, bits_of, word_bits}

-- the leading bits of a pseudokey, so many, as a number
abbrev pub leading : ℕ → ℕ → ℕ
leading count pseudokey = number_of (take count (word_bits pseudokey))

-- the least of the pseudokeys whose leading bits, so many, are the number
abbrev pub first_pseudokey : ℕ → ℕ → ℕ
first_pseudokey count number = number * 2 ^ (64 - count)

-- ---- wards, by which a file is cut

-- the ward of a pseudokey: its leading bits, as a number
abbrev pub ward_of : ℕ → ℕ → ℕ
ward_of ward_bits pseudokey = leading ward_bits pseudokey

-- a ward's own prefix: its number, in as many bits as the file is cut by
abbrev pub ward_prefix : ℕ → ℕ → List Bool
ward_prefix ward_bits number = bits_of ward_bits number
