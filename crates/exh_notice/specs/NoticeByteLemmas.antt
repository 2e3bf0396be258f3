-- Numbers of any width in bytes, from the bytes to the number and back.
use Rattle.std.proofs.Common.{◌≡◌, ℕ, zero, suc, ◌+◌, ◌*◌, ◌/◌, ◌%◌, ◌^◌, ◌<◌, ◌≤◌, List, [], ◌∷◌, ◌++◌, length, replicate, drop, slice_index, refl, sym, ap, ◌∙◌, subst, arith}
use Rattle.std.proofs.Math.Nat.{mod-eq_of_lt, add-mul, mul_assoc, mul_comm, div-div-eq-div-mul, mul-div_cancel}
use Rattle.std.proofs.lemmas.List.{get_or-drop}
use Rattle.std.proofs.lemmas.Nat.{div-mul-add, pow-add}
use Rattle.std.specs.Int.{byte_at, bytes_high_first}
use Rattle.std.specs.List.{AllByRecursion}
use Rattle.byteorder.specs.Endian.{big_from}
use Rattle.byteorder.specs.Numbers.{big_from-lt}
use Rattle.exh_prefix.specs.PrefixByteLemmas.{byte_at-div, low_bytes, bytes_of_multiple, power_positive}
use Rattle.exh_notice.specs.NoticeImages.{items}

items-cons : (i n : ℕ) (byte : ℕ) (bytes : List ℕ) → items (suc i) n (byte ∷ bytes) ≡ items i n bytes
items-cons i zero byte bytes = refl
items-cons i (suc n) byte bytes = ap (λ rest. slice_index bytes i ∷ rest) (items-cons (suc i) n byte bytes)

-- a list is its items
pub items_all : (n : ℕ) (bytes : List ℕ) → length bytes ≡ n → items 0 n bytes ≡ bytes
items_all zero [] len = refl
items_all zero (byte ∷ bytes) len = absurd (omega (arith, len))
items_all (suc n) [] len = absurd (omega (arith, len))
items_all (suc n) (byte ∷ bytes) len = ap (λ rest. byte ∷ rest) (items-cons 0 n byte bytes ∙ items_all n bytes (omega (arith, len)))

pub length-items : (i n : ℕ) (bytes : List ℕ) → length (items i n bytes) ≡ n
length-items i zero bytes = refl
length-items i (suc n) bytes = ap suc (length-items (suc i) n bytes)

-- items of the rest of a list are read from their places
pub items-drop : (i j n : ℕ) (bytes : List ℕ) → items j n (drop i bytes) ≡ items (i + j) n bytes
items-drop i j zero bytes = refl
items-drop i j (suc n) bytes =
    let place : i + suc j ≡ suc (i + j) = omega arith in
    let rest : items (suc j) n (drop i bytes) ≡ items (suc (i + j)) n bytes = items-drop i (suc j) n bytes ∙ ap (λ i. items i n bytes) place in
    rw (get_or-drop i bytes j 0, rest) refl

-- items, and then others
pub items-add : (i m n : ℕ) (bytes : List ℕ) → items i (m + n) bytes ≡ items i m bytes ++ items (i + m) n bytes
items-add i zero n bytes =
    let count : 0 + n ≡ n = omega arith in
    let place : i ≡ i + 0 = omega arith in
    ap (λ count. items i count bytes) count ∙ ap (λ i. items i n bytes) place
items-add i (suc m) n bytes =
    let count : suc m + n ≡ suc (m + n) = omega arith in
    let place : suc i + m ≡ i + suc m = omega arith in
    ap (λ count. items i count bytes) count
    ∙ ap (λ rest. slice_index bytes i ∷ rest) (items-add (suc i) m n bytes ∙ ap (λ place. items (suc i) m bytes ++ items place n bytes) place)

-- the first items of two lists
pub items-front : (n : ℕ) (front back : List ℕ) → length front ≡ n → items 0 n (front ++ back) ≡ front
items-front zero [] back len = refl
items-front zero (byte ∷ front) back len = absurd (omega (arith, len))
items-front (suc n) [] back len = absurd (omega (arith, len))
items-front (suc n) (byte ∷ front) back len =
    ap (λ rest. byte ∷ rest) (items-cons 0 n byte (front ++ back) ∙ items-front n front back (omega (arith, len)))

-- lists that agree as far as they are read have the same items,
pub items-agree : (i n m : ℕ) (one other : List ℕ) → i + n ≤ m → ((k : ℕ) → k < m → slice_index one k ≡ slice_index other k) → items i n one ≡ items i n other
items-agree i zero m one other within agree = refl
items-agree i (suc n) m one other within agree =
    rw (agree i (omega (arith, within)), items-agree (suc i) n m one other (omega (arith, within)) agree) refl

-- and the same numbers
pub big_from-agree : (i n m : ℕ) (one other : List ℕ) → i + n ≤ m → ((k : ℕ) → k < m → slice_index one k ≡ slice_index other k) → big_from i n one ≡ big_from i n other
big_from-agree i zero m one other within agree = refl
big_from-agree i (suc n) m one other within agree =
    rw (agree i (omega (arith, within)), big_from-agree (suc i) n m one other (omega (arith, within)) agree) refl

pub zeros_are_zero : (n : ℕ) → AllByRecursion (λ (byte : ℕ). byte ≡ 0) (replicate n 0)
zeros_are_zero zero = tt
zeros_are_zero (suc n) = (refl, zeros_are_zero n)

pub zeros_from : (n : ℕ) (bytes : List ℕ) → length bytes ≡ n → AllByRecursion (λ (byte : ℕ). byte ≡ 0) bytes → bytes ≡ replicate n 0
zeros_from zero [] len zeros = refl
zeros_from zero (byte ∷ bytes) len zeros = absurd (omega (arith, len))
zeros_from (suc n) [] len zeros = absurd (omega (arith, len))
zeros_from (suc n) (byte ∷ bytes) len zeros =
    ap (λ byte. byte ∷ bytes) zeros.0 ∙ ap (λ rest. 0 ∷ rest) (zeros_from n bytes (omega (arith, len)) zeros.1)

-- the bytes of the number that n bytes spell are those bytes
pub bytes_of_number : (i n : ℕ) (bytes : List ℕ) → ((k : ℕ) → slice_index bytes k < 256) → bytes_high_first n (big_from i n bytes) ≡ items i n bytes
bytes_of_number i zero bytes small = refl
bytes_of_number i (suc n) bytes small =
    let byte = slice_index bytes i in
    let rest = big_from (suc i) n bytes in
    let top : byte_at n (byte * 256 ^ n + rest) ≡ byte =
    byte_at-div n (byte * 256 ^ n + rest) ∙ ap (λ n. n % 256) (div-mul-add byte (256 ^ n) rest (big_from-lt (suc i) n bytes small)) ∙ mod-eq_of_lt (small i) in
    rw (top, low_bytes n n byte rest (omega arith), bytes_of_number (suc i) n bytes small) refl

-- a number read from the rest of some bytes is read from its place
pub big_from-drop : (i j n : ℕ) (bytes : List ℕ) → big_from j n (drop i bytes) ≡ big_from (i + j) n bytes
big_from-drop i j zero bytes = refl
big_from-drop i j (suc n) bytes =
    let place : i + suc j ≡ suc (i + j) = omega arith in
    let rest : big_from (suc j) n (drop i bytes) ≡ big_from (suc (i + j)) n bytes = big_from-drop i (suc j) n bytes ∙ ap (λ i. big_from i n bytes) place in
    rw (get_or-drop i bytes j 0, rest) refl

-- one more item is zero,
pub zeros-push : (i n : ℕ) (bytes : List ℕ) → AllByRecursion (λ (byte : ℕ). byte ≡ 0) (items i n bytes) → slice_index bytes (i + n) ≡ 0 → AllByRecursion (λ (byte : ℕ). byte ≡ 0) (items i (suc n) bytes)
zeros-push i zero bytes zeros zero_next =
    let place : i + 0 ≡ i = omega arith in
    (subst (λ (i : ℕ). slice_index bytes i ≡ 0) place zero_next, tt)
zeros-push i (suc n) bytes zeros zero_next =
    let place : i + suc n ≡ suc i + n = omega arith in
    (zeros.0, zeros-push (suc i) n bytes zeros.1 (subst (λ (i : ℕ). slice_index bytes i ≡ 0) place zero_next))

-- and each of them
pub zeros-at : (i n k : ℕ) (bytes : List ℕ) → AllByRecursion (λ (byte : ℕ). byte ≡ 0) (items i n bytes) → k < n → slice_index bytes (i + k) ≡ 0
zeros-at i zero k bytes zeros within = absurd (omega (arith, within))
zeros-at i (suc n) zero bytes zeros within =
    let place : i ≡ i + 0 = omega arith in
    subst (λ (i : ℕ). slice_index bytes i ≡ 0) place zeros.0
zeros-at i (suc n) (suc k) bytes zeros within =
    let place : suc i + k ≡ i + suc k = omega arith in
    subst (λ (i : ℕ). slice_index bytes i ≡ 0) place (zeros-at (suc i) n k bytes zeros.1 (omega (arith, within)))

-- the number in some bytes, and in the others behind them
pub big_from-add : (i m n : ℕ) (bytes : List ℕ) → big_from i (m + n) bytes ≡ big_from i m bytes * 256 ^ n + big_from (i + m) n bytes
big_from-add i zero n bytes =
    let count : 0 + n ≡ n = omega arith in
    let place : i ≡ i + 0 = omega arith in
    let none : 0 * 256 ^ n ≡ 0 = omega arith in
    omega (arith, ap (λ n. big_from i n bytes) count, ap (λ i. big_from i n bytes) place, none)
big_from-add i (suc m) n bytes =
    let byte = slice_index bytes i in
    let count : suc m + n ≡ suc (m + n) = omega arith in
    let next : suc i + m ≡ i + suc m = omega arith in
    let place : byte * 256 ^ (m + n) ≡ byte * 256 ^ m * 256 ^ n = ap (λ p. byte * p) (pow-add 256 m n) ∙ sym (mul_assoc byte (256 ^ m) (256 ^ n)) in
    let rest : big_from (suc i) (m + n) bytes ≡ big_from (suc i) m bytes * 256 ^ n + big_from (i + suc m) n bytes =
    big_from-add (suc i) m n bytes ∙ ap (λ place. big_from (suc i) m bytes * 256 ^ n + big_from place n bytes) next in
    let parted : (byte * 256 ^ m + big_from (suc i) m bytes) * 256 ^ n ≡ byte * 256 ^ m * 256 ^ n + big_from (suc i) m bytes * 256 ^ n = add-mul (byte * 256 ^ m) (big_from (suc i) m bytes) (256 ^ n) in
    ap (λ n. big_from i n bytes) count ∙ (omega (arith, place, rest, parted))

pub zeros_number : (i n : ℕ) (bytes : List ℕ) → AllByRecursion (λ (byte : ℕ). byte ≡ 0) (items i n bytes) → big_from i n bytes ≡ 0
zeros_number i zero bytes zeros = refl
zeros_number i (suc n) bytes zeros =
    let first : slice_index bytes i * 256 ^ n ≡ 0 = ap (λ b. b * 256 ^ n) zeros.0 ∙ (omega arith) in
    omega (arith, first, zeros_number (suc i) n bytes zeros.1)

-- a number in some bytes, followed by zeros
pub number_then_zeros : (m n x : ℕ) → bytes_high_first (m + n) (x * 256 ^ n) ≡ bytes_high_first m x ++ replicate n 0
number_then_zeros zero n x = let count : 0 + n ≡ n = omega arith in ap (λ m. bytes_high_first m (x * 256 ^ n)) count ∙ bytes_of_multiple n x
number_then_zeros (suc m) n x =
    let count : suc m + n ≡ suc (m + n) = omega arith in
    let places : 256 ^ (m + n) ≡ 256 ^ n * 256 ^ m = pow-add 256 m n ∙ mul_comm (256 ^ m) (256 ^ n) in
    let top : byte_at (m + n) (x * 256 ^ n) ≡ byte_at m x =
    byte_at-div (m + n) (x * 256 ^ n) ∙ ap (λ place. x * 256 ^ n / place % 256) places ∙ ap (λ y. y % 256) (sym (div-div-eq-div-mul (x * 256 ^ n) (256 ^ n) (256 ^ m)))
    ∙ ap (λ y. y / 256 ^ m % 256) (mul-div_cancel x (power_positive n)) ∙ sym (byte_at-div m x) in
    ap (λ m. bytes_high_first m (x * 256 ^ n)) count ∙ ap (λ byte. byte ∷ bytes_high_first (m + n) (x * 256 ^ n)) top
    ∙ ap (λ rest. byte_at m x ∷ rest) (number_then_zeros m n x)
