-- Prefixes and the low bounds of their children.
use Rattle.std.proofs.Common.{◌≡◌, ℕ, zero, suc, ◌+◌, ◌-◌, ◌*◌, ◌^◌, ◌<◌, ◌≤◌, Bool, true, false, List, [], ◌∷◌, ◌++◌, length, take, drop, refl, sym, ap, ◌∙◌, arith}
use Rattle.std.proofs.lemmas.List.{length_push, take-append-le, take_all, append_assoc, take-append-drop, drop-replicate}
use Rattle.std.proofs.Math.Seq.{drop-append-add}
use Rattle.std.proofs.lemmas.Nat.{pow_pos}
use Rattle.std.proofs.Math.Nat.{pow-suc}
use Rattle.exh_prefix.specs.declared.prefix.TheConstants.{LIMIT}
use Rattle.exh_prefix.specs.Bits.{word_bits}
use Rattle.exh_prefix.specs.Prefix.{zeros, IsFront, Begins, HasPrefix, low_of}
use Rattle.exh_prefix.specs.PrefixLemmas.{low_of-child, low_of-left_child, begins_from_low, word_bits-low_of, low_of-word}

pub own_front : (bits : List Bool) → IsFront bits bits
own_front bits = take_all (length bits) bits (omega arith)

-- a front is no longer than what it is the front of
pub front_shorter : (front bits : List Bool) → IsFront front bits → length front ≤ length bits
front_shorter [] bits is = omega arith
front_shorter (first ∷ front) [] is = cc
front_shorter (first ∷ front) (bit ∷ bits) is =
    let rest : take (length front) bits ≡ front = cc in
    omega (arith, front_shorter front bits rest)

pub front_of_longer : (front bits more : List Bool) → IsFront front bits → IsFront front (bits ++ more)
front_of_longer front bits more is = take-append-le (length front) bits more (front_shorter front bits is) ∙ is

-- a front of bits with one bit more is a front of the bits, or all of it
pub front_of_child : (front bits : List Bool) (bit : Bool) → IsFront front (bits ++ bit ∷ []) → length front ≤ length bits → IsFront front bits
front_of_child front bits bit is short = sym (take-append-le (length front) bits (bit ∷ []) short) ∙ is

pub same_front : (front bits : List Bool) → IsFront front bits → length front ≡ length bits → front ≡ bits
same_front front bits is same = sym is ∙ take_all (length front) bits (omega (arith, same))

pub low_of-small : (prefix : List Bool) → length prefix ≤ LIMIT → low_of prefix < 2 ^ 64
low_of-small prefix short = low_of-word prefix (omega arith)

-- a prefix begins its low bound
pub begins_own_low : (prefix : List Bool) → length prefix ≤ LIMIT → Begins prefix (low_of prefix)
begins_own_low prefix short = begins_from_low prefix (low_of prefix) (omega arith) (omega arith) (omega (arith, pow_pos (64 - length prefix)))

-- the low bound of the right child is above the parent's, which the left one keeps
pub right_above : (prefix : List Bool) → length prefix < LIMIT → low_of prefix < low_of (prefix ++ true ∷ [])
right_above prefix short = omega (arith, low_of-child prefix true (omega arith), pow_pos (63 - length prefix))

pub left_keeps : (prefix : List Bool) → length prefix < LIMIT → low_of (prefix ++ false ∷ []) ≡ low_of prefix
left_keeps prefix short = low_of-left_child prefix (omega arith)

pub child_short : (prefix : List Bool) (bit : Bool) → length prefix < LIMIT → length (prefix ++ bit ∷ []) ≤ LIMIT
child_short prefix bit short = omega (arith, length_push prefix bit)

no_one : (m : ℕ) (bits : List Bool) (n : ℕ) → zeros m ≡ bits ++ true ∷ zeros n → ⊥
no_one zero [] n same = cc
no_one zero (bit ∷ bits) n same = cc
no_one (suc m) [] n same = cc
no_one (suc m) (bit ∷ bits) n same = let rest : zeros m ≡ bits ++ true ∷ zeros n = cc in no_one m bits n rest

-- what lies between the low bounds of a prefix and its right child, the prefix begins
pub begins_between : (prefix : List Bool) (number : ℕ) → length prefix < LIMIT → low_of prefix ≤ number → number < low_of (prefix ++ true ∷ []) → Begins prefix number
begins_between prefix number short above below =
    let more : 64 - length prefix ≡ suc (63 - length prefix) = omega arith in
    let double : 2 ^ (64 - length prefix) ≡ 2 ^ (63 - length prefix) * 2 = ap (λ n. 2 ^ n) more ∙ pow-suc 2 (63 - length prefix) in
    begins_from_low prefix number (omega arith) above (omega (arith, low_of-child prefix true (omega arith), double))

-- a child begins no less than its parent does
pub child_above : (prefix : List Bool) (bit : Bool) → length prefix < LIMIT → low_of prefix ≤ low_of (prefix ++ bit ∷ [])
child_above prefix bit short = omega (arith, low_of-child prefix bit (omega arith))

-- ---- a low bound of a right child tells its parent

same_before : (one other : List Bool) (m n : ℕ) → one ++ true ∷ zeros m ≡ other ++ true ∷ zeros n → one ≡ other
same_before [] [] m n same = refl
same_before [] (bit ∷ other) m n same = let rest : zeros m ≡ other ++ true ∷ zeros n = cc in absurd (no_one m other n rest)
same_before (bit ∷ one) [] m n same = let rest : one ++ true ∷ zeros m ≡ zeros n = cc in absurd (no_one n one m (sym rest))
same_before (first ∷ one) (bit ∷ other) m n same =
    let head : first ≡ bit = cc in
    let rest : one ++ true ∷ zeros m ≡ other ++ true ∷ zeros n = cc in
    rw (head, same_before one other m n rest) refl

pub right_tells_parent : (one other : List Bool) → length one < LIMIT → length other < LIMIT → low_of (one ++ true ∷ []) ≡ low_of (other ++ true ∷ []) → one ≡ other
right_tells_parent one other short few same =
    let word : (prefix : List Bool) → length prefix < LIMIT → word_bits (low_of (prefix ++ true ∷ [])) ≡ prefix ++ true ∷ zeros (64 - length (prefix ++ true ∷ [])) =
    λ prefix short. word_bits-low_of (prefix ++ true ∷ []) (omega (arith, length_push prefix true)) ∙ append_assoc prefix (true ∷ []) _ in
    same_before one other _ _ (sym (word one short) ∙ ap word_bits same ∙ word other few)

-- a low bound of a prefix has zeros past LIMIT bits
pub low_of-HasPrefix : (prefix : List Bool) → length prefix ≤ LIMIT → HasPrefix LIMIT (low_of prefix)
low_of-HasPrefix prefix short =
    let word = word_bits-low_of prefix (omega arith) in
    let here : length prefix + (LIMIT - length prefix) ≡ LIMIT = omega arith in
    let rest : drop LIMIT (word_bits (low_of prefix)) ≡ zeros (64 - LIMIT) =
    ap (drop LIMIT) word ∙ ap (λ n. drop n (prefix ++ zeros (64 - length prefix))) (sym here) ∙ drop-append-add prefix (zeros (64 - length prefix)) (LIMIT - length prefix)
    ∙ drop-replicate (LIMIT - length prefix) (64 - length prefix) false ∙ ap zeros (let fewer : (64 - length prefix) - (LIMIT - length prefix) ≡ 64 - LIMIT = omega arith in fewer) in
    (omega arith, sym (take-append-drop LIMIT (word_bits (low_of prefix))) ∙ ap (λ bits. take LIMIT (word_bits (low_of prefix)) ++ bits) rest)
