-- Numbers as lists of bits, the highest bit first.
use Rattle.std.specs.Prelude.{ℕ, zero, suc, ◌+◌, ◌-◌, ◌^◌, Bool, true, false, cond, nat_le, List, [], ◌∷◌, length}

-- the number that the bits spell
unfoldable pub number_of : List Bool → ℕ
number_of [] = 0
number_of (bit ∷ bits) = cond bit (2 ^ length bits) 0 + number_of bits

-- the n bits of a number below 2 ^ n: the first says whether 2 ^ (n - 1) fits into it, and the others spell what is left
unfoldable pub bits_of : ℕ → ℕ → List Bool
bits_of zero number = []
bits_of (suc n) number = nat_le (2 ^ n) number ∷ bits_of n (number - cond (nat_le (2 ^ n) number) (2 ^ n) 0)

-- the 64 bits of a pseudokey
unfoldable pub word_bits : ℕ → List Bool
word_bits number = bits_of 64 number

-- whether a bit is set
abbrev pub has_one : List Bool → Bool
has_one [] = false
has_one (bit ∷ bits) = cond bit true (has_one bits)

-- the bits with the last one that is set cleared
abbrev pub without_last_one : List Bool → List Bool
without_last_one [] = []
without_last_one (bit ∷ bits) = cond (has_one bits) bit false ∷ without_last_one bits

-- the number with its lowest set bit cleared, which leaves 0 as it is
unfoldable pub lowest_cleared : ℕ → ℕ
lowest_cleared number = number_of (without_last_one (word_bits number))
