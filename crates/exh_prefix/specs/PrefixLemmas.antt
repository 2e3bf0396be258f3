-- Prefixes, their low bounds and the numbers that they begin.
use Rattle.std.proofs.Common.{◌≡◌, ℕ, zero, suc, ◌+◌, ◌-◌, ◌*◌, ◌/◌, ◌%◌, ◌^◌, ◌<◌, ◌≤◌, Bool, true, false, cond, List, [], ◌∷◌, ◌++◌, length, take, drop, get_or, ◌⊎◌, inl, inr, refl, sym, ap, ◌∙◌, subst, arith, nat_cmp, nat_eq, ◌&&◌, IsTrue, ◌↔◌}
use Rattle.std.specs.Cmp.{IsTotalOrder}
use Rattle.std.specs.Int.Bits.{bit_and}
use Rattle.std.proofs.lemmas.Bool.{false≢true, and_from, and_parts, eqb-true, eq-eqb, false_from_ne_true}
use Rattle.std.proofs.lemmas.Cmp.{nat_cmp_total, on_total, then_total}
use Rattle.std.proofs.lemmas.List.{length-append, length-replicate, length-drop, length-take-le, take_at, drop_at, take-append-drop, take-take, append_assoc, take_more, length_push, same_from_push}
use Rattle.std.proofs.lemmas.Map.Lookups.{CmpEqualImpliesEq, exact_pairs, exact_unsigned}
use Rattle.std.proofs.lemmas.Nat.{pow-add, pow_pos, mod-mul-add, shl-shr}
use Rattle.std.proofs.Math.Nat.{mul_assoc, pow-suc, zero-mul, mul-le-mul_right, mul-lt-mul_of_pos_right, le-mul_of_pos_right}
use Rattle.exh_prefix.specs.declared.prefix.TheConstants.{LIMIT}
use Rattle.exh_prefix.specs.Bits.{number_of, bits_of, word_bits, lowest_cleared, has_one, without_last_one}
use Rattle.exh_prefix.specs.Prefix.{zeros, IsFront, Begins, same_bit, is_front, begins, low_of, prefix_cmp, HasPrefix, HasPrefixUpTo}
use Rattle.exh_prefix.specs.BitLemmas.{length-bits_of, number_of-lt, number_of-bits_of, bits_of-number_of, number_of-append, number_of-zeros, same_bits, zeros_from_number, number_of-without_last_one}

last_bit : (bit : Bool) (n w : ℕ) → (n * 2 ^ length (bit ∷ []) + number_of (bit ∷ [])) * w ≡ n * (w * 2) + cond bit w 0
unfolding number_of
last_bit true n w = omega arith
last_bit false n w = omega arith

last_digit : (bit : Bool) (n : ℕ) → (n * 2 ^ length (bit ∷ []) + number_of (bit ∷ [])) % 2 ≡ cond bit 1 0
unfolding number_of
last_digit true n = omega arith
last_digit false n = omega arith

product : (a r m w : ℕ) → (a * m + r) * w ≡ a * (m * w) + r * w
product a r m w = omega arith

zero_factor : (a w : ℕ) → 0 < w → a * w ≡ 0 → a ≡ 0
zero_factor a w positive none = grind (arith, le-mul_of_pos_right)

pub length-word_bits : (number : ℕ) → length (word_bits number) ≡ 64
unfolding word_bits
length-word_bits number = length-bits_of 64 number

pub number_of-word_bits : (number : ℕ) → number < 2 ^ 64 → number_of (word_bits number) ≡ number
unfolding word_bits
number_of-word_bits number h = number_of-bits_of 64 number h

pub word_bits-number_of : (bits : List Bool) → length bits ≡ 64 → word_bits (number_of bits) ≡ bits
unfolding word_bits
word_bits-number_of bits len = subst (λ n. bits_of n (number_of bits) ≡ bits) len (bits_of-number_of bits)

-- as many bits as the prefix lacks to 64
pub length-filled : (prefix rest : List Bool) → length prefix ≤ 64 → length rest ≡ 64 - length prefix → length (prefix ++ rest) ≡ 64
length-filled prefix rest short len = omega (arith, length-append prefix rest)

pub word_bits-low_of : (prefix : List Bool) → length prefix ≤ 64 → word_bits (low_of prefix) ≡ prefix ++ zeros (64 - length prefix)
unfolding low_of
word_bits-low_of prefix short = word_bits-number_of _ (length-filled prefix _ short (length-replicate _ _))

pub low_of-product : (prefix : List Bool) → low_of prefix ≡ number_of prefix * 2 ^ (64 - length prefix)
unfolding low_of
low_of-product prefix = rw (number_of-append prefix (zeros (64 - length prefix)), number_of-zeros (64 - length prefix), length-replicate (64 - length prefix) false) (omega arith)

-- a prefix that stands in the highest bits of a word, and so in its low bound
pub low_of-places : (prefix : List Bool) (bits : ℕ) → length prefix ≤ bits → bits ≤ 64 → low_of prefix ≡ number_of prefix * 2 ^ (bits - length prefix) * 2 ^ (64 - bits)
low_of-places prefix bits short word =
    let places : 64 - length prefix ≡ bits - length prefix + (64 - bits) = omega (arith, short, word) in
    low_of-product prefix ∙ ap (λ n. number_of prefix * n) (ap (λ n. 2 ^ n) places ∙ pow-add 2 (bits - length prefix) (64 - bits))
    ∙ sym (mul_assoc (number_of prefix) (2 ^ (bits - length prefix)) (2 ^ (64 - bits)))

-- the first bits of a number that has a prefix spell its low bound, whatever the limit
pub low_of-up_to : (limit len bits : ℕ) → limit ≤ 64 → bits < 2 ^ 64 → HasPrefixUpTo limit len bits → low_of (take len (word_bits bits)) ≡ bits
unfolding low_of
low_of-up_to limit len bits word small stored =
    let within : length (take len (word_bits bits)) ≡ len = length-take-le len (word_bits bits) (omega (arith, word, stored.0, length-word_bits bits)) in
    rw (within, ← stored.1) (number_of-word_bits bits small)

pub low_of-stored : (len bits : ℕ) → bits < 2 ^ 64 → HasPrefix len bits → low_of (take len (word_bits bits)) ≡ bits
low_of-stored len bits small stored = low_of-up_to LIMIT len bits (omega arith) small stored

pub length-up_to : (limit len bits : ℕ) → limit ≤ 64 → HasPrefixUpTo limit len bits → length (take len (word_bits bits)) ≡ len
length-up_to limit len bits word stored = length-take-le len (word_bits bits) (omega (arith, word, stored.0, length-word_bits bits))

pub length-stored : (len bits : ℕ) → HasPrefix len bits → length (take len (word_bits bits)) ≡ len
length-stored len bits stored = length-up_to LIMIT len bits (omega arith) stored

pub take-word-low_of : (bits : List Bool) (n : ℕ) → length bits ≡ n → n ≤ 64 → take n (word_bits (low_of bits)) ≡ bits
take-word-low_of bits n many short = ap (take n) (word_bits-low_of bits (omega arith)) ∙ take_at bits (zeros (64 - length bits)) n many

pub take-low_of-word : (prefix : List Bool) → length prefix ≤ 64 → take (length prefix) (word_bits (low_of prefix)) ≡ prefix
take-low_of-word prefix short = take-word-low_of prefix (length prefix) refl short

pub take-low_of : (prefix : List Bool) → length prefix ≤ LIMIT → take (length prefix) (word_bits (low_of prefix)) ≡ prefix
take-low_of prefix short = take-low_of-word prefix (omega arith)

-- a prefix's low bound has the prefix
pub up_to-low_of : (limit : ℕ) (prefix : List Bool) → limit ≤ 64 → length prefix ≤ limit → HasPrefixUpTo limit (length prefix) (low_of prefix)
up_to-low_of limit prefix word short =
    let whole : length prefix ≤ 64 = omega (arith, word, short) in
    (short, word_bits-low_of prefix whole ∙ ap (λ front. front ++ zeros (64 - length prefix)) (sym (take-low_of-word prefix whole)))

pub HasPrefix-low_of : (prefix : List Bool) → length prefix ≤ LIMIT → HasPrefix (length prefix) (low_of prefix)
HasPrefix-low_of prefix short = up_to-low_of LIMIT prefix (omega arith) short

-- a prefix's low bound and length are what is stored of it
pub stored_low : (prefix : List Bool) (len bits : ℕ) → take len (word_bits bits) ≡ prefix → HasPrefix len bits × (bits < 2 ^ 64) → low_of prefix ≡ bits
stored_low prefix len bits is stored = ap low_of (sym is) ∙ low_of-stored len bits stored.1 stored.0

pub stored_length : (prefix : List Bool) (len bits : ℕ) → take len (word_bits bits) ≡ prefix → HasPrefix len bits × (bits < 2 ^ 64) → length prefix ≡ len
stored_length prefix len bits is stored = ap length (sym is) ∙ length-stored len bits stored.0

pub ruleset stored_fields = (stored_low, stored_length)

-- a prefix and as many bits as one past its low bound
pub low_of-lt : (prefix : List Bool) → length prefix ≤ 64 → low_of prefix + 2 ^ (64 - length prefix) ≤ 2 ^ 64
low_of-lt prefix short =
    let len = length prefix in
    let m = 64 - length prefix in
    let whole : 2 ^ (len + m) ≡ 2 ^ len * 2 ^ m = pow-add 2 len m in
    let same : len + m ≡ 64 = omega arith in
    let most : (number_of prefix + 1) * 2 ^ m ≤ 2 ^ len * 2 ^ m = mul-le-mul_right (2 ^ m) (omega (arith, number_of-lt prefix)) in
    rw (low_of-product prefix) (omega (arith, most, whole, ap (λ n. 2 ^ n) same))

-- the low bound of bits that fit into a word is one
pub low_of-word : (bits : List Bool) → length bits ≤ 64 → low_of bits < 2 ^ 64
low_of-word bits short = omega (arith, low_of-lt bits short, pow_pos (64 - length bits))

pub low_of-child : (prefix : List Bool) (bit : Bool) → length prefix < 64 → low_of (prefix ++ bit ∷ []) ≡ low_of prefix + cond bit (2 ^ (63 - length prefix)) 0
low_of-child prefix bit short =
    let len = length prefix in
    let longer : length (prefix ++ bit ∷ []) ≡ len + 1 = length-append prefix (bit ∷ []) in
    let less : 64 - (len + 1) ≡ 63 - len = omega arith in
    let more : 64 - len ≡ suc (63 - len) = omega arith in
    rw (low_of-product (prefix ++ bit ∷ []), low_of-product prefix, longer, less, more, pow-suc 2 (63 - len), number_of-append prefix (bit ∷ []))
    (last_bit bit (number_of prefix) (2 ^ (63 - len)))

-- the number that begins a 64-bit word, and what is left of it
pub word_split : (len bits : ℕ) → len ≤ 64 → bits < 2 ^ 64 → bits ≡ number_of (take len (word_bits bits)) * 2 ^ (64 - len) + number_of (drop len (word_bits bits))
word_split len bits short small =
    let word = word_bits bits in
    let rest : length (drop len word) ≡ 64 - len = omega (arith, length-drop len word, length-word_bits bits) in
    sym (number_of-word_bits bits small) ∙ ap number_of (sym (take-append-drop len word)) ∙ number_of-append (take len word) (drop len word)
    ∙ ap (λ n. number_of (take len word) * 2 ^ n + number_of (drop len word)) rest

-- what is left of a word is below the place of its prefix
pub word_rest-lt : (len bits : ℕ) → len ≤ 64 → number_of (drop len (word_bits bits)) < 2 ^ (64 - len)
word_rest-lt len bits short =
    let rest : length (drop len (word_bits bits)) ≡ 64 - len = omega (arith, length-drop len (word_bits bits), length-word_bits bits) in
    subst (λ n. number_of (drop len (word_bits bits)) < 2 ^ n) rest (number_of-lt (drop len (word_bits bits)))

-- `bits << len` keeps the bits past the prefix alone
pub shifted_out : (len bits : ℕ) → len ≤ 64 → bits < 2 ^ 64 → (bits * 2 ^ len) % 2 ^ 64 ≡ number_of (drop len (word_bits bits)) * 2 ^ len
shifted_out len bits short small =
    let front = number_of (take len (word_bits bits)) in
    let rest = number_of (drop len (word_bits bits)) in
    let m = 64 - len in
    let whole : 2 ^ (m + len) ≡ 2 ^ m * 2 ^ len = pow-add 2 m len in
    let same : m + len ≡ 64 = omega arith in
    let word : 2 ^ 64 ≡ 2 ^ m * 2 ^ len = ap (λ n. 2 ^ n) (sym same) ∙ whole in
    let below : rest * 2 ^ len < 2 ^ m * 2 ^ len = mul-lt-mul_of_pos_right (word_rest-lt len bits short) (pow_pos len) in
    let spread : bits * 2 ^ len ≡ front * (2 ^ m * 2 ^ len) + rest * 2 ^ len = ap (λ n. n * 2 ^ len) (word_split len bits short small) ∙ product front rest (2 ^ m) (2 ^ len) in
    ap (λ n. n % 2 ^ 64) spread ∙ ap (λ n. (front * (2 ^ m * 2 ^ len) + rest * 2 ^ len) % n) word ∙ mod-mul-add front (2 ^ m * 2 ^ len) (rest * 2 ^ len) below

pub HasPrefix-from_shift : (len bits : ℕ) → len ≤ LIMIT → bits < 2 ^ 64 → (bits * 2 ^ len) % 2 ^ 64 ≡ 0 → HasPrefix len bits
HasPrefix-from_shift len bits short small none =
    let word = word_bits bits in
    let rest : length (drop len word) ≡ 64 - len = omega (arith, length-drop len word, length-word_bits bits) in
    let product_zero : number_of (drop len word) * 2 ^ len ≡ 0 = sym (shifted_out len bits (omega arith) small) ∙ none in
    let zero_rest : number_of (drop len word) ≡ 0 = zero_factor (number_of (drop len word)) (2 ^ len) (pow_pos len) product_zero in
    (short, sym (take-append-drop len word) ∙ ap (λ bits. take len word ++ bits) (zeros_from_number (drop len word) zero_rest ∙ ap zeros rest))

pub shift-HasPrefix : (len bits : ℕ) → bits < 2 ^ 64 → HasPrefix len bits → (bits * 2 ^ len) % 2 ^ 64 ≡ 0
shift-HasPrefix len bits small stored =
    let word = word_bits bits in
    let dropped : drop len word ≡ zeros (64 - len) = ap (drop len) stored.1 ∙ drop_at (take len word) (zeros (64 - len)) len (length-stored len bits stored) in
    shifted_out len bits (omega (arith, stored.0)) small ∙ ap (λ bits. number_of bits * 2 ^ len) dropped ∙ ap (λ n. n * 2 ^ len) (number_of-zeros (64 - len)) ∙ zero-mul (2 ^ len)

-- ---- what a prefix begins

pub begins_low : (prefix : List Bool) (number : ℕ) → length prefix ≤ 64 → number < 2 ^ 64 → Begins prefix number → (low_of prefix ≤ number) × (number < low_of prefix + 2 ^ (64 - length prefix))
begins_low prefix number short small begins =
    let split : number ≡ low_of prefix + number_of (drop (length prefix) (word_bits number)) =
    word_split (length prefix) number short small ∙ ap (λ bits. number_of bits * 2 ^ (64 - length prefix) + number_of (drop (length prefix) (word_bits number))) begins
    ∙ ap (λ n. n + number_of (drop (length prefix) (word_bits number))) (sym (low_of-product prefix)) in
    (omega (arith, split), omega (arith, split, word_rest-lt (length prefix) number short))

pub begins_from_low : (prefix : List Bool) (number : ℕ) → length prefix ≤ 64 → low_of prefix ≤ number → number < low_of prefix + 2 ^ (64 - length prefix) → Begins prefix number
begins_from_low prefix number short above below =
    let m = 64 - length prefix in
    let rest = bits_of m (number - low_of prefix) in
    let spelled : number_of (prefix ++ rest) ≡ number =
    number_of-append prefix rest ∙ ap (λ n. number_of prefix * 2 ^ n + number_of rest) (length-bits_of m (number - low_of prefix))
    ∙ ap (λ n. n + number_of rest) (sym (low_of-product prefix)) ∙ ap (λ n. low_of prefix + n) (number_of-bits_of m (number - low_of prefix) (omega arith)) ∙ (omega arith) in
    let word : word_bits number ≡ prefix ++ rest = ap word_bits (sym spelled) ∙ word_bits-number_of (prefix ++ rest) (length-filled prefix rest short (length-bits_of m _)) in
    ap (take (length prefix)) word ∙ take_at prefix rest (length prefix) refl

-- of two fronts of the same bits, the shorter is the front of the longer
pub fronts_nest : (one other bits : List Bool) → length one ≤ length other → IsFront one bits → IsFront other bits → IsFront one other
fronts_nest one other bits shorter first second = ap (take (length one)) (sym second) ∙ take-take (length one) (length other) bits shorter ∙ first

-- the front of a front of some bits is the front of the bits
pub front_of_front : (one other bits : List Bool) → length one ≤ length other → IsFront one other → IsFront other bits → IsFront one bits
front_of_front one other bits shorter first second = sym (take-take (length one) (length other) bits shorter) ∙ ap (take (length one)) second ∙ first

-- ---- the tests of fronts

same_bit-self : (bit : Bool) → same_bit bit bit ≡ true
same_bit-self true = refl
same_bit-self false = refl

same_bit-true : (one other : Bool) → same_bit one other ≡ true → other ≡ one
same_bit-true true other same = same
same_bit-true false true same = cc
same_bit-true false false same = refl

pub is_front-true : (front bits : List Bool) → IsFront front bits → is_front front bits ≡ true
is_front-true [] bits is = refl
is_front-true (first ∷ front) [] is = cc
is_front-true (first ∷ front) (bit ∷ bits) is =
    let head : bit ≡ first = cc in
    let rest : take (length front) bits ≡ front = cc in
    rw (head, same_bit-self first) (is_front-true front bits rest)

pub IsFront-from_test : (front bits : List Bool) → is_front front bits ≡ true → IsFront front bits
IsFront-from_test [] bits is = refl
IsFront-from_test (first ∷ front) [] is = cc
IsFront-from_test (first ∷ front) (bit ∷ bits) is =
    let both = and_parts (same_bit first bit) (is_front front bits) is in
    rw (same_bit-true first bit both.0, IsFront-from_test front bits both.1) refl

pub not_front : (front bits : List Bool) → (IsFront front bits → ⊥) → is_front front bits ≡ false
not_front front bits none = false_from_ne_true _ (λ is. none (IsFront-from_test front bits is))

pub begins_or_not : (prefix : List Bool) (pseudokey : ℕ) → Begins prefix pseudokey ⊎ (Begins prefix pseudokey → ⊥)
begins_or_not prefix pseudokey =
    elim (begins prefix pseudokey) as (λ test. begins prefix pseudokey ≡ test → Begins prefix pseudokey ⊎ (Begins prefix pseudokey → ⊥)) [
      | true ↦ λ is. inl (IsFront-from_test prefix (word_bits pseudokey) is)
      | false ↦ λ is. inr (λ begun. false≢true (sym is ∙ is_front-true prefix (word_bits pseudokey) begun))
    ] refl

-- ---- children, and the last bit

-- the last bit's place in a low bound
pub low_of-quotient : (prefix : List Bool) → low_of prefix / 2 ^ (64 - length prefix) ≡ number_of prefix
low_of-quotient prefix = ap (λ n. n / 2 ^ (64 - length prefix)) (low_of-product prefix) ∙ shl-shr (number_of prefix) (64 - length prefix)

pub last_of-number : (parent : List Bool) (bit : Bool) → number_of (parent ++ bit ∷ []) % 2 ≡ cond bit 1 0
last_of-number parent bit = ap (λ n. n % 2) (number_of-append parent (bit ∷ [])) ∙ last_digit bit (number_of parent)

-- a list that isn't empty is a front and a last element
pub last_split : (bits : List Bool) → 0 < length bits → (front : List Bool) × (last : Bool) × (bits ≡ front ++ last ∷ [])
last_split [] some = absurd (omega arith)
last_split (bit ∷ []) some = ([], bit, refl)
last_split (bit ∷ next ∷ bits) some =
    let rest = last_split (next ∷ bits) (omega arith) in
    (bit ∷ rest.0, rest.1, ap (λ bits. bit ∷ bits) rest.2)

-- ---- the lowest bit of a low bound

pub lowest_cleared-and : (number : ℕ) → number < 2 ^ 64 → lowest_cleared number ≡ bit_and number (number - 1)
unfolding lowest_cleared
lowest_cleared-and number small = number_of-without_last_one (word_bits number) ∙ ap (λ n. bit_and n (n - 1)) (number_of-word_bits number small)

has_one-zeros : (n : ℕ) → has_one (zeros n) ≡ false
has_one-zeros zero = refl
has_one-zeros (suc n) = has_one-zeros n

without_last_one-zeros : (n : ℕ) → without_last_one (zeros n) ≡ zeros n
without_last_one-zeros zero = refl
without_last_one-zeros (suc n) = rw (has_one-zeros n, without_last_one-zeros n) refl

has_one-append : (front back : List Bool) → has_one back ≡ true → has_one (front ++ back) ≡ true
has_one-append [] back some = some
has_one-append (true ∷ front) back some = refl
has_one-append (false ∷ front) back some = has_one-append front back some

without_last_one-append : (front : List Bool) (n : ℕ) → without_last_one (front ++ true ∷ zeros n) ≡ front ++ false ∷ zeros n
without_last_one-append [] n = rw (has_one-zeros n, without_last_one-zeros n) refl
without_last_one-append (bit ∷ front) n = rw (has_one-append front (true ∷ zeros n) refl, without_last_one-append front n) refl

-- a prefix and one more bit, filled with zeros
low_of-longer : (prefix : List Bool) (bit : Bool) → length prefix < 64 → low_of (prefix ++ bit ∷ []) ≡ number_of (prefix ++ bit ∷ zeros (63 - length prefix))
unfolding low_of
low_of-longer prefix bit short =
    let less : 64 - length (prefix ++ bit ∷ []) ≡ 63 - length prefix = omega (arith, length-append prefix (bit ∷ [])) in
    ap number_of (append_assoc prefix (bit ∷ []) (zeros (64 - length (prefix ++ bit ∷ []))) ∙ ap (λ n. prefix ++ bit ∷ zeros n) less)

low_of-filled : (prefix : List Bool) → length prefix < 64 → low_of prefix ≡ number_of (prefix ++ false ∷ zeros (63 - length prefix))
unfolding low_of
low_of-filled prefix short =
    let more : 64 - length prefix ≡ suc (63 - length prefix) = omega arith in
    ap (λ n. number_of (prefix ++ zeros n)) more

pub low_of-left_child : (prefix : List Bool) → length prefix < 64 → low_of (prefix ++ false ∷ []) ≡ low_of prefix
low_of-left_child prefix short = low_of-longer prefix false short ∙ sym (low_of-filled prefix short)

pub lowest_cleared-right_child : (prefix : List Bool) → length prefix < 64 → lowest_cleared (low_of (prefix ++ true ∷ [])) ≡ low_of prefix
unfolding lowest_cleared
lowest_cleared-right_child prefix short =
    let bits = prefix ++ true ∷ zeros (63 - length prefix) in
    let more : length (true ∷ zeros (63 - length prefix)) ≡ 64 - length prefix = omega (arith, length-replicate (63 - length prefix) false) in
    let whole : length bits ≡ 64 = length-filled prefix (true ∷ zeros (63 - length prefix)) (omega arith) more in
    ap (λ n. number_of (without_last_one (word_bits n))) (low_of-longer prefix true short)
    ∙ ap (λ bits. number_of (without_last_one bits)) (word_bits-number_of bits whole)
    ∙ ap number_of (without_last_one-append prefix (63 - length prefix)) ∙ sym (low_of-filled prefix short)

-- ---- what children begin

-- the first bits of a word, and one more
next_bit : (prefix : List Bool) (number : ℕ) → length prefix < 64 → Begins prefix number → take (length prefix + 1) (word_bits number) ≡ prefix ++ get_or (word_bits number) (length prefix) false ∷ []
next_bit prefix number short begins =
    take_more (word_bits number) (length prefix) false (omega (arith, length-word_bits number))
    ∙ ap (λ bits. bits ++ get_or (word_bits number) (length prefix) false ∷ []) begins

-- the child whose last bit is the word's next begins it
begins_child : (prefix : List Bool) (number : ℕ) (bit : Bool) → take (length prefix + 1) (word_bits number) ≡ prefix ++ bit ∷ [] → Begins (prefix ++ bit ∷ []) number
begins_child prefix number bit is = ap (λ n. take n (word_bits number)) (length_push prefix bit) ∙ is

child_begins : (prefix : List Bool) (number : ℕ) (bit : Bool) → Begins (prefix ++ bit ∷ []) number → take (length prefix + 1) (word_bits number) ≡ prefix ++ bit ∷ []
child_begins prefix number bit begins = ap (λ n. take n (word_bits number)) (sym (length_push prefix bit)) ∙ begins

pub child_of_begun : (prefix : List Bool) (number : ℕ) → length prefix < 64 → Begins prefix number → Begins (prefix ++ false ∷ []) number ⊎ Begins (prefix ++ true ∷ []) number
child_of_begun prefix number short begins =
    let next = next_bit prefix number short begins in
    elim (get_or (word_bits number) (length prefix) false) as (λ bit. take (length prefix + 1) (word_bits number) ≡ prefix ++ bit ∷ [] → Begins (prefix ++ false ∷ []) number ⊎ Begins (prefix ++ true ∷ []) number) [
      | true ↦ λ is. inr (begins_child prefix number true is)
      | false ↦ λ is. inl (begins_child prefix number false is)
    ] next

pub one_child_begins : (prefix : List Bool) (number : ℕ) → Begins (prefix ++ false ∷ []) number → Begins (prefix ++ true ∷ []) number → ⊥
one_child_begins prefix number left right =
    let same : false ≡ true = (same_from_push prefix prefix false true (sym (child_begins prefix number false left) ∙ child_begins prefix number true right)).1 in
    false≢true same

pub parent_begins : (prefix : List Bool) (number : ℕ) (bit : Bool) → Begins (prefix ++ bit ∷ []) number → Begins prefix number
parent_begins prefix number bit begins =
    front_of_front prefix (prefix ++ bit ∷ []) (word_bits number) (omega (arith, length_push prefix bit)) (take_at prefix (bit ∷ []) (length prefix) refl) begins

-- ---- the order

pub prefix_cmp-total : IsTotalOrder prefix_cmp
prefix_cmp-total = then_total (on_total low_of nat_cmp_total) (on_total length nat_cmp_total)

-- prefixes of one low bound and one length are one
pub same_prefix : (one other : List Bool) → low_of one ≡ low_of other → length one ≡ length other → one ≡ other
same_prefix one other low len =
    let quotient = sym (low_of-quotient one) ∙ ap (λ n. n / 2 ^ (64 - length one)) low ∙ ap (λ n. low_of other / 2 ^ (64 - n)) len ∙ low_of-quotient other in
    same_bits one other len quotient

pub prefix_cmp-exact : CmpEqualImpliesEq prefix_cmp
prefix_cmp-exact one other same =
    let pair = exact_pairs nat_cmp nat_cmp exact_unsigned exact_unsigned (low_of one, length one) (low_of other, length other) same in
    same_prefix one other (ap (λ (p : ℕ × ℕ). p.0) pair) (ap (λ (p : ℕ × ℕ). p.1) pair)

-- what `==` tests, the low bounds and the lengths, passes exactly where the prefixes are the same bits
pub prefix_eq-exact : (one other : List Bool) → IsTrue (nat_eq (low_of one) (low_of other) && nat_eq (length one) (length other)) ↔ (one ≡ other)
prefix_eq-exact one other = (
  λ passes. let parts = and_parts _ _ passes in same_prefix one other (eqb-true _ _ parts.0) (eqb-true _ _ parts.1),
  λ same. and_from _ _ (eq-eqb _ _ (ap low_of same)) (eq-eqb _ _ (ap length same)),
)
