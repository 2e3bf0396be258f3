-- A prefix as the list of its bits.
use Rattle.std.specs.Prelude.{◌≡◌, ℕ, ◌-◌, ◌≤◌, Bool, true, false, not, ◌&&◌, List, [], ◌∷◌, ◌++◌, length, take, replicate, map, codes}
use Rattle.std.specs.declared.cmp.Ordering.{Ordering}
use Rattle.std.specs.Ordering.{nat_cmp, then_cmp, on}
use Rattle.exh_prefix.specs.Bits.{number_of, word_bits}
use Rattle.exh_prefix.specs.declared.prefix.TheConstants.{LIMIT}

-- n bits that are zero
abbrev pub zeros : ℕ → List Bool
zeros n = replicate n false

-- the bits are the front of the others
abbrev pub IsFront : List Bool → List Bool → Type 0
IsFront front bits = take (length front) bits ≡ front

-- the prefix is the front of the pseudokey's 64 bits
abbrev pub Begins : List Bool → ℕ → Type 0
Begins prefix pseudokey = IsFront prefix (word_bits pseudokey)

-- ---- the same as tests

abbrev pub same_bit : Bool → Bool → Bool
same_bit true bit = bit
same_bit false bit = not bit

-- whether the bits are the front of the others
abbrev pub is_front : List Bool → List Bool → Bool
is_front [] bits = true
is_front (first ∷ front) [] = false
is_front (first ∷ front) (bit ∷ bits) = same_bit first bit && is_front front bits

abbrev pub begins : List Bool → ℕ → Bool
begins prefix pseudokey = is_front prefix (word_bits pseudokey)

-- ---- low bounds

-- the prefix, followed by zeros to 64 bits, as a number
unfoldable pub low_of : List Bool → ℕ
low_of prefix = number_of (prefix ++ zeros (64 - length prefix))

-- by low bound, then by length
abbrev pub prefix_cmp : List Bool → List Bool → Ordering
prefix_cmp = then_cmp (on low_of nat_cmp) (on length nat_cmp)

-- the prefixes differ in their last bit alone
abbrev pub AreBuddies : List Bool → List Bool → Type 0
AreBuddies one other = (parent : List Bool) × (bit : Bool) × (one ≡ parent ++ bit ∷ []) × (other ≡ parent ++ not bit ∷ [])

-- the first `len` bits of a number, at most `limit` of them, of which every bit past them is zero
abbrev pub HasPrefixUpTo : ℕ → ℕ → ℕ → Type 0
HasPrefixUpTo limit len bits = (len ≤ limit) × (word_bits bits ≡ take len (word_bits bits) ++ zeros (64 - len))

abbrev pub HasPrefix : ℕ → ℕ → Type 0
HasPrefix len bits = HasPrefixUpTo LIMIT len bits

-- the digit of a bit
abbrev pub bit_digit : Bool → ℕ
bit_digit true = 49
bit_digit false = 48

-- the prefix as text: its bits, or a dash where there are none
abbrev pub prefix_text : List Bool → List ℕ
prefix_text [] = codes "-"
prefix_text (bit ∷ bits) = map bit_digit (bit ∷ bits)
