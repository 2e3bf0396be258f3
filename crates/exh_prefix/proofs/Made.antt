-- The fields that stand for a prefix.
use Rattle.std.proofs.Common.{◌≡◌, ℕ, ◌+◌, ◌-◌, ◌*◌, ◌/◌, ◌%◌, ◌^◌, ◌<◌, ◌≤◌, Bool, true, false, cond, List, [], ◌∷◌, ◌++◌, length, take, drop, map, get_or, slice_get, Some, leb, eqb, IsTrue, ◌↔◌, sym, ap, ◌∙◌, subst, arith}
use Rattle.std.proofs.lemmas.List.{length-append, length_push, same_from_push, take_more, get_or-take, map_more}
use Rattle.std.proofs.lemmas.Option.{slice_get-get_or, slice_get_within, get_or_from_slice_get}
use Rattle.std.proofs.lemmas.Nat.{pow_pos, one_shl, div-mul-add}
use Rattle.std.proofs.lemmas.Nat.Bits.{ones_shr}
use Rattle.std.specs.Int.{from_bool}
use Rattle.std.proofs.lemmas.Bool.{leb-true, le-leb, eqb-true, eq-eqb, false_from_ne_true, false≢true}
use Rattle.std.proofs.Math.Nat.{zero-mul}
use Rattle.exh_prefix.specs.declared.prefix.TheConstants.{LIMIT}
use Rattle.exh_prefix.specs.Bits.{number_of, word_bits}
use Rattle.exh_prefix.specs.Prefix.{bit_digit, Begins, low_of, HasPrefix}
use Rattle.exh_prefix.specs.PrefixLemmas.{stored_low, stored_length, take-low_of, HasPrefix-low_of, low_of-lt, low_of-child, low_of-quotient, last_of-number, last_split, begins_low, begins_from_low, length-word_bits, word_split, word_rest-lt}

-- the fields stand for the prefix
pub record IsStored (prefix : List Bool) (len bits : ℕ) : Type 0 where
  pub view_is : take len (word_bits bits) ≡ prefix
  pub invariant : HasPrefix len bits × (bits < 2 ^ 64)

-- a prefix's length and low bound do
pub made : (prefix : List Bool) (len bits : ℕ) → length prefix ≤ LIMIT → len ≡ length prefix → bits ≡ low_of prefix → IsStored prefix len bits
made prefix len bits short is_len is_bits =
    let P : ℕ → Type 0 = λ n. IsStored prefix n bits in
    let Q : ℕ → Type 0 = IsStored prefix (length prefix) in
    let small : low_of prefix < 2 ^ 64 = omega (arith, low_of-lt prefix (omega arith), pow_pos (64 - length prefix)) in
    subst P (sym is_len) (subst Q (sym is_bits) (record { view_is = take-low_of prefix short; invariant = (HasPrefix-low_of prefix short, small) }))

-- a bit, shifted to a place of a 64-bit word
bit_shl : (bit : Bool) (one place : ℕ) → one ≡ from_bool bit → place < 64 → one * 2 ^ place % 2 ^ 64 ≡ cond bit (2 ^ place) 0
bit_shl true one place is within = ap (λ n. n * 2 ^ place % 2 ^ 64) is ∙ one_shl place 64 within
bit_shl false one place is within = ap (λ n. n * 2 ^ place % 2 ^ 64) is ∙ ap (λ n. n % 2 ^ 64) (zero-mul (2 ^ place))

child_bits : (prefix : List Bool) (bit : Bool) (len bits one : ℕ) → length prefix ≡ len → low_of prefix ≡ bits → len < 64 → one ≡ from_bool bit
    → bits + one * 2 ^ (63 - len) % 2 ^ 64 ≡ low_of (prefix ++ bit ∷ [])
child_bits prefix bit len bits one is_len is_bits short is_one =
    let shifted : one * 2 ^ (63 - len) % 2 ^ 64 ≡ cond bit (2 ^ (63 - length prefix)) 0 =
    bit_shl bit one (63 - len) is_one (omega arith) ∙ ap (λ n. cond bit (2 ^ (63 - n)) 0) (sym is_len) in
    omega (arith, shifted, low_of-child prefix bit (omega arith))

-- the child of the prefix that is stored so
pub child_made : (prefix : List Bool) (bit : Bool) (len bits one : ℕ) → take len (word_bits bits) ≡ prefix → HasPrefix len bits × (bits < 2 ^ 64) → len < LIMIT → one ≡ from_bool bit
    → IsStored (prefix ++ bit ∷ []) (len + 1) (bits + one * 2 ^ (63 - len) % 2 ^ 64)
child_made prefix bit len bits one is stored short is_one =
    let is_len = stored_length prefix len bits is stored in
    let longer = length_push prefix bit in
    made (prefix ++ bit ∷ []) _ _ (omega arith) (omega arith) (child_bits prefix bit len bits one is_len (stored_low prefix len bits is stored) (omega arith) is_one)

parent_bits : (parent : List Bool) (bit : Bool) (len bits one : ℕ) → len ≡ length parent + 1 → low_of (parent ++ bit ∷ []) ≡ bits → len ≤ 64 → one ≡ from_bool bit
    → low_of parent + one * 2 ^ (64 - len) % 2 ^ 64 ≡ bits
parent_bits parent bit len bits one is_len is_bits short is_one =
    let less : 64 - len ≡ 63 - length parent = omega arith in
    let shifted : one * 2 ^ (64 - len) % 2 ^ 64 ≡ cond bit (2 ^ (63 - length parent)) 0 =
    bit_shl bit one (64 - len) is_one (omega arith) ∙ ap (λ n. cond bit (2 ^ n) 0) less in
    omega (arith, shifted, low_of-child parent bit (omega arith))

-- the last bit of a prefix, read off its low bound
last_bit_is : (parent : List Bool) (bit : Bool) (len bits : ℕ) → len ≡ length parent + 1 → low_of (parent ++ bit ∷ []) ≡ bits → bits / 2 ^ (64 - len) % 2 ≡ cond bit 1 0
last_bit_is parent bit len bits is_len is_bits =
    let longer : length (parent ++ bit ∷ []) ≡ len = length-append parent (bit ∷ []) ∙ sym is_len in
    ap (λ n. n / 2 ^ (64 - len) % 2) (sym is_bits) ∙ ap (λ n. low_of (parent ++ bit ∷ []) / 2 ^ (64 - n) % 2) (sym longer)
    ∙ ap (λ n. n % 2) (low_of-quotient (parent ++ bit ∷ [])) ∙ last_of-number parent bit

-- the test of `begins`, where the number isn't below the low bound
pub begins_test : (prefix : List Bool) (len bits number : ℕ) → take len (word_bits bits) ≡ prefix → HasPrefix len bits × (bits < 2 ^ 64) → number < 2 ^ 64 → bits ≤ number
    → IsTrue (leb (number - bits) ((2 ^ 64 - 1) / 2 ^ len)) ↔ Begins prefix number
begins_test prefix len bits number is stored small above =
    let is_bits = stored_low prefix len bits is stored in
    let is_len = stored_length prefix len bits is stored in
    let short : len ≤ 64 = omega (arith, stored.0.0) in
    let most : (2 ^ 64 - 1) / 2 ^ len ≡ 2 ^ (64 - length prefix) - 1 = ones_shr 64 len short ∙ ap (λ n. 2 ^ (64 - n) - 1) (sym is_len) in
    let positive : 0 < 2 ^ (64 - length prefix) = pow_pos (64 - length prefix) in (
      λ passes. let within : number - bits ≤ (2 ^ 64 - 1) / 2 ^ len = leb-true _ _ passes in begins_from_low prefix number (omega arith) (omega arith) (omega arith),
      λ begins. let range = begins_low prefix number (omega arith) small begins in le-leb _ _ (omega (arith, range.1)),
    )

right_from_split : (prefix : List Bool) (len bits : ℕ) (front : List Bool) (last : Bool) → prefix ≡ front ++ last ∷ [] → low_of prefix ≡ bits → length prefix ≡ len
    → bits / 2 ^ (64 - len) % 2 ≡ 1 → (parent : List Bool) × (prefix ≡ parent ++ true ∷ [])
right_from_split prefix len bits front true split is_bits is_len one = (front, split)
right_from_split prefix len bits front false split is_bits is_len one =
    let none : bits / 2 ^ (64 - len) % 2 ≡ 0 = last_bit_is front false len bits (sym is_len ∙ ap length split ∙ length_push front false) (ap low_of (sym split) ∙ is_bits) in
    absurd (omega arith)

-- the test of `is_right_child`, where there is a last bit
pub right_test : (prefix : List Bool) (len bits : ℕ) → take len (word_bits bits) ≡ prefix → HasPrefix len bits × (bits < 2 ^ 64) → 0 < len
    → IsTrue (eqb (bits / 2 ^ (64 - len) % 2) 1) ↔ ((parent : List Bool) × (prefix ≡ parent ++ true ∷ []))
right_test prefix len bits is stored some =
    let is_bits = stored_low prefix len bits is stored in
    let is_len = stored_length prefix len bits is stored in (
      λ passes. let split = last_split prefix (omega arith) in right_from_split prefix len bits split.0 split.1 split.2 is_bits is_len (eqb-true _ _ passes),
      λ right. eq-eqb _ _ (last_bit_is right.0 true len bits (sym is_len ∙ ap length right.1 ∙ length_push right.0 true) (ap low_of (sym right.1) ∙ is_bits)),
    )

-- whether a prefix is a right child is its last bit
right_is_last : (prefix front : List Bool) (last right : Bool) → prefix ≡ front ++ last ∷ [] → IsTrue right ↔ ((parent : List Bool) × (prefix ≡ parent ++ true ∷ [])) → right ≡ last
right_is_last prefix front true right split tells = tells.1 (front, split)
right_is_last prefix front false right split tells =
    false_from_ne_true right (λ is. let other = tells.0 is in false≢true (same_from_push front other.0 false true (sym split ∙ other.1)).1)

-- the parent of the prefix that is stored so
pub record ParentOf (prefix : List Bool) (len bits last_place : ℕ) : Type 0 where
  pub parent : List Bool
  pub last : Bool
  pub split : prefix ≡ parent ++ last ∷ []
  pub within : last_place ≤ bits
  pub stored : IsStored parent (len - 1) (bits - last_place)

pub parent_made : (prefix : List Bool) (len bits one : ℕ) (right : Bool) → take len (word_bits bits) ≡ prefix → HasPrefix len bits × (bits < 2 ^ 64) → 0 < length prefix
    → one ≡ from_bool right → IsTrue right ↔ ((parent : List Bool) × (prefix ≡ parent ++ true ∷ [])) → ParentOf prefix len bits (one * 2 ^ (64 - len) % 2 ^ 64)
parent_made prefix len bits one right is stored some is_one tells =
    let split = last_split prefix some in
    let last = right_is_last prefix split.0 split.1 right split.2 tells in
    let is_len = stored_length prefix len bits is stored in
    let longer : len ≡ length split.0 + 1 = sym is_len ∙ ap length split.2 ∙ length_push split.0 split.1 in
    let short : len ≤ LIMIT = stored.0.0 in
    let sum = parent_bits split.0 split.1 len bits one longer (ap low_of (sym split.2) ∙ stored_low prefix len bits is stored) (omega arith) (is_one ∙ ap from_bool last) in
    record { parent = split.0; last = split.1; split = split.2; within = omega (arith, sum); stored = made split.0 _ _ (omega arith) (omega arith) (omega (arith, sum)) }

-- the bit of a word at a place, 0 for the highest
word_bit : (bits place : ℕ) → bits < 2 ^ 64 → place < 64 → bits / 2 ^ (63 - place) % 2 ≡ cond (get_or (word_bits bits) place false) 1 0
word_bit bits place small within =
    let word = word_bits bits in
    let less : 64 - (place + 1) ≡ 63 - place = omega arith in
    let rest = number_of (drop (place + 1) word) in
    let below : rest < 2 ^ (63 - place) = subst (λ n. rest < 2 ^ n) less (word_rest-lt (place + 1) bits (omega arith)) in
    let split : bits ≡ number_of (take (place + 1) word) * 2 ^ (63 - place) + rest = word_split (place + 1) bits (omega arith) small ∙ ap (λ n. number_of (take (place + 1) word) * 2 ^ n + rest) less in
    ap (λ n. n / 2 ^ (63 - place) % 2) split ∙ ap (λ n. n % 2) (div-mul-add (number_of (take (place + 1) word)) (2 ^ (63 - place)) rest below)
    ∙ ap (λ bits. number_of bits % 2) (take_more word place false (omega (arith, length-word_bits bits))) ∙ last_of-number (take place word) (get_or word place false)

test_of_bit : (bit : Bool) (n : ℕ) → n ≡ cond bit 1 0 → eqb n 1 ≡ bit
test_of_bit true n is = eq-eqb n 1 is
test_of_bit false n is = false_from_ne_true _ (λ one. absurd (omega (arith, eqb-true n 1 one)))

-- the bit of a prefix at a place
pub bit_read : (prefix : List Bool) (len bits place : ℕ) → take len (word_bits bits) ≡ prefix → HasPrefix len bits × (bits < 2 ^ 64) → place < length prefix
    → slice_get prefix place ≡ Some (eqb (bits / 2 ^ (63 - place) % 2) 1)
bit_read prefix len bits place is stored within =
    let is_len = stored_length prefix len bits is stored in
    slice_get-get_or prefix place false within
    ∙ ap Some (ap (λ bits. get_or bits place false) (sym is) ∙ get_or-take len (word_bits bits) place false (omega arith) ∙ sym (test_of_bit _ _ (word_bit bits place stored.1 (omega (arith, stored.0.0)))))

-- the digits up to a place, and the next
pub digits_more : (prefix : List Bool) (place : ℕ) (bit : Bool) → slice_get prefix place ≡ Some bit → map bit_digit (take place prefix) ++ bit_digit bit ∷ [] ≡ map bit_digit (take (place + 1) prefix)
digits_more prefix place bit at =
    let within = slice_get_within prefix place bit at in
    sym (map_more bit_digit prefix place bit within ∙ ap (λ bit. map bit_digit (take place prefix) ++ bit_digit bit ∷ []) (get_or_from_slice_get prefix place bit bit at))
