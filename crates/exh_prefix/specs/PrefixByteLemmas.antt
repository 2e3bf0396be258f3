-- Bytes of numbers, the highest first.
use Rattle.std.proofs.Common.{◌≡◌, ℕ, zero, suc, ◌+◌, ◌*◌, ◌/◌, ◌%◌, ◌^◌, ◌<◌, ◌≤◌, ◌-◌, drop, replicate, refl, sym, ap, ◌∙◌, subst, arith}
use Rattle.std.proofs.Math.Nat.{div-one, zero-div, mul-add-div_right, mul-add-mod_self_right, one-le-pow, pow-suc}
use Rattle.std.proofs.lemmas.Nat.{pow-add}
use Rattle.std.specs.Int.{byte_at, bytes_high_first}

-- n bytes are 8 * n bits
pub power_of_bytes : (n : ℕ) → 256 ^ n ≡ 2 ^ (8 * n)
power_of_bytes zero = refl
power_of_bytes (suc n) =
    let places : 8 * suc n ≡ 8 * n + 8 = omega arith in
    omega (arith, pow-suc 256 n, power_of_bytes n, pow-add 2 (8 * n) 8, ap (λ m. 2 ^ m) places)

pub power_positive : (n : ℕ) → 0 < 256 ^ n
power_positive n = let one = one-le-pow n 256 (omega arith) in omega (arith, one)

pub byte_at-div : (k x : ℕ) → byte_at k x ≡ x / 256 ^ k % 256
byte_at-div zero x = ap (λ y. y % 256) (sym (div-one x))
byte_at-div (suc k) x = refl

-- a byte doesn't see what stands above it
byte_at-lower : (k m high low : ℕ) → byte_at k (high * 256 ^ (m + suc k) + low) ≡ byte_at k low
byte_at-lower k m high low =
    let place = 256 ^ k in
    let above : high * 256 ^ (m + suc k) ≡ (high * 256 ^ m * 256) * place =
    ap (λ n. high * n) (pow-add 256 m (suc k) ∙ ap (λ n. 256 ^ m * n) (pow-suc 256 k)) ∙ (omega arith) in
    byte_at-div k (high * 256 ^ (m + suc k) + low) ∙ ap (λ n. (n + low) / place % 256) above
    ∙ ap (λ n. n % 256) (mul-add-div_right (power_positive k) (high * 256 ^ m * 256) low)
    ∙ mul-add-mod_self_right (high * 256 ^ m) 256 (low / place) ∙ sym (byte_at-div k low)

-- the low bytes of a number don't see what stands above them
pub low_bytes : (k n high low : ℕ) → k ≤ n → bytes_high_first k (high * 256 ^ n + low) ≡ bytes_high_first k low
low_bytes zero n high low fits = refl
low_bytes (suc k) n high low fits =
    let rest : n - suc k + suc k ≡ n = omega (arith, fits) in
    let byte : byte_at k (high * 256 ^ n + low) ≡ byte_at k low = subst (λ n. byte_at k (high * 256 ^ n + low) ≡ byte_at k low) rest (byte_at-lower k (n - suc k) high low) in
    let fewer : k ≤ n = omega (arith, fits) in
    rw (byte, low_bytes k n high low fewer) refl

-- the last bytes of a number are those of what stands below
pub drop-high_bytes : (m n x : ℕ) → drop m (bytes_high_first (m + n) x) ≡ bytes_high_first n x
drop-high_bytes zero n x = let count : 0 + n ≡ n = omega arith in ap (λ n. bytes_high_first n x) count
drop-high_bytes (suc m) n x =
    let count : suc m + n ≡ suc (m + n) = omega arith in
    ap (λ n. drop (suc m) (bytes_high_first n x)) count ∙ drop-high_bytes m n x

bytes_of_zero : (n : ℕ) → bytes_high_first n 0 ≡ replicate n 0
bytes_of_zero zero = refl
bytes_of_zero (suc n) =
    let top : byte_at n 0 ≡ 0 = byte_at-zero n in
    rw (top, bytes_of_zero n) refl
  where
    byte_at-zero : (k : ℕ) → byte_at k 0 ≡ 0
    byte_at-zero k = byte_at-div k 0 ∙ ap (λ n. n % 256) (zero-div (256 ^ k)) ∙ refl

-- the last n bytes of a multiple of their room are zero
pub bytes_of_multiple : (n high : ℕ) → bytes_high_first n (high * 256 ^ n) ≡ replicate n 0
bytes_of_multiple n high =
    let none : high * 256 ^ n ≡ high * 256 ^ n + 0 = omega arith in
    ap (bytes_high_first n) none ∙ low_bytes n n high 0 (omega arith) ∙ bytes_of_zero n
