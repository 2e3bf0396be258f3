-- Numbers and the bits that spell them.
use Rattle.std.proofs.Common.{◌≡◌, ℕ, zero, suc, ◌+◌, ◌-◌, ◌*◌, ◌^◌, ◌<◌, ◌≤◌, Bool, true, false, cond, leb, List, [], ◌∷◌, ◌++◌, length, replicate, refl, sym, ap, ◌∙◌, ◌⊎◌, inl, inr, arith}
use Rattle.std.proofs.lemmas.Bool.{le-leb, lt-leb}
use Rattle.std.proofs.lemmas.Bool.Decides.{leb_tells}
use Rattle.std.proofs.lemmas.List.{length-append, length-replicate}
use Rattle.std.proofs.lemmas.Nat.{pow-add, pow_pos}
use Rattle.std.proofs.Math.Nat.{pow-suc}
use Rattle.std.proofs.lemmas.Nat.{and_block, and_mask}
use Rattle.std.specs.Int.Bits.{bit_and, and_self, and_zero_l}
use Rattle.std.proofs.Math.Nat.{add-zero, zero-add, mod_self}
use Rattle.exh_prefix.specs.Bits.{number_of, bits_of, has_one, without_last_one}

pub length-bits_of : (n number : ℕ) → length (bits_of n number) ≡ n
unfolding bits_of
length-bits_of zero number = refl
length-bits_of (suc n) number = ap suc (length-bits_of n _)

-- what a bit at the place of weight w adds, at most w
bit_weight : (bit : Bool) (w : ℕ) → (cond bit w 0) ≤ w
bit_weight true w = omega arith
bit_weight false w = omega arith

pub number_of-lt : (bits : List Bool) → number_of bits < 2 ^ length bits
unfolding number_of
number_of-lt [] = omega arith
number_of-lt (bit ∷ bits) = omega (arith, number_of-lt bits, bit_weight bit (2 ^ length bits), pow-suc 2 (length bits))

pub number_of-bits_of : (n number : ℕ) → number < 2 ^ n → number_of (bits_of n number) ≡ number
unfolding number_of bits_of
number_of-bits_of zero number h = omega arith
number_of-bits_of (suc n) number h =
    elim (leb_tells (2 ^ n) number) [
      | inl fits ↦ rw (fits.0, length-bits_of n _, number_of-bits_of n (number - 2 ^ n) (omega (arith, pow-suc 2 n))) (omega arith)
      | inr short ↦ rw (short.0, number_of-bits_of n (number - 0) (omega (arith, pow-suc 2 n))) (omega arith)
    ]

pub bits_of-number_of : (bits : List Bool) → bits_of (length bits) (number_of bits) ≡ bits
unfolding number_of bits_of
bits_of-number_of [] = refl
bits_of-number_of (true ∷ bits) =
    let fits : leb (2 ^ length bits) (2 ^ length bits + number_of bits) ≡ true = le-leb _ _ (omega arith) in
    let rest : 2 ^ length bits + number_of bits - 2 ^ length bits ≡ number_of bits = omega arith in
    rw (fits, rest, bits_of-number_of bits) refl
bits_of-number_of (false ∷ bits) =
    let short : leb (2 ^ length bits) (0 + number_of bits) ≡ false = lt-leb _ _ (omega (arith, number_of-lt bits)) in
    let rest : 0 + number_of bits - 0 ≡ number_of bits = omega arith in
    rw (short, rest, bits_of-number_of bits) refl

pub number_of-append : (front back : List Bool) → number_of (front ++ back) ≡ number_of front * 2 ^ length back + number_of back
unfolding number_of
number_of-append [] back = omega arith
number_of-append (true ∷ front) back =
    rw (length-append front back, number_of-append front back, pow-add 2 (length front) (length back)) (omega arith)
number_of-append (false ∷ front) back = rw (number_of-append front back) (omega arith)

pub number_of-zeros : (n : ℕ) → number_of (replicate n false) ≡ 0
unfolding number_of
number_of-zeros zero = refl
number_of-zeros (suc n) = rw (number_of-zeros n) (omega arith)

-- bits of one length that spell one number are the same
pub same_bits : (one other : List Bool) → length one ≡ length other → number_of one ≡ number_of other → one ≡ other
same_bits one other len number = sym (bits_of-number_of one) ∙ ap (λ n. bits_of n (number_of one)) len ∙ ap (bits_of (length other)) number ∙ bits_of-number_of other

-- bits that spell 0 are all zero
pub zeros_from_number : (bits : List Bool) → number_of bits ≡ 0 → bits ≡ replicate (length bits) false
zeros_from_number bits none = same_bits bits _ (sym (length-replicate (length bits) false)) (none ∙ sym (number_of-zeros (length bits)))

-- bits of which one is set spell no 0, and others do
number_by_has_one : (bits : List Bool) → ((has_one bits ≡ true) × (0 < number_of bits)) ⊎ ((has_one bits ≡ false) × (number_of bits ≡ 0) × (number_of (without_last_one bits) ≡ 0))
unfolding number_of
number_by_has_one [] = inr (refl, refl, refl)
number_by_has_one (true ∷ bits) = inl (refl, omega (arith, pow_pos (length bits)))
number_by_has_one (false ∷ bits) =
    elim (number_by_has_one bits) [
      | inl some ↦ inl (some.0, omega (arith, some.1))
      | inr none ↦ inr (none.0, omega (arith, none.1), rw none.0 (omega (arith, none.2)))
    ]

pub length-without_last_one : (bits : List Bool) → length (without_last_one bits) ≡ length bits
length-without_last_one [] = refl
length-without_last_one (bit ∷ bits) = ap suc (length-without_last_one bits)

-- where a lower bit is set, the bit stays
with_lower : (bit : Bool) (bits : List Bool) → has_one bits ≡ true → 0 < number_of bits → number_of (without_last_one bits) ≡ bit_and (number_of bits) (number_of bits - 1)
    → number_of (cond (has_one bits) bit false ∷ without_last_one bits) ≡ bit_and (cond bit (2 ^ length bits) 0 + number_of bits) (cond bit (2 ^ length bits) 0 + number_of bits - 1)
unfolding number_of
with_lower true bits some positive rest =
    let n = number_of bits in
    let block = and_block (length bits) 1 1 n (n - 1) (number_of-lt bits) (omega (arith, number_of-lt bits)) in
    let lower : 2 ^ length bits + n - 1 ≡ 1 * 2 ^ length bits + (n - 1) = omega (arith, positive) in
    let same : 2 ^ length bits + n ≡ 1 * 2 ^ length bits + n = omega arith in
    rw (some, length-without_last_one bits, rest, lower, same, block, and_self) (omega arith)
with_lower false bits some positive rest = rw (some, rest, zero-add (number_of bits)) (zero-add _)

-- where no lower bit is set, the bit is cleared
alone : (bit : Bool) (bits : List Bool) → has_one bits ≡ false → number_of bits ≡ 0 → number_of (without_last_one bits) ≡ 0
    → number_of (cond (has_one bits) bit false ∷ without_last_one bits) ≡ bit_and (cond bit (2 ^ length bits) 0 + number_of bits) (cond bit (2 ^ length bits) 0 + number_of bits - 1)
unfolding number_of
alone true bits none zero_number rest =
    rw (none, rest, zero_number, add-zero (2 ^ length bits), and_mask (2 ^ length bits) (length bits)) (sym (mod_self (2 ^ length bits)))
alone false bits none zero_number rest = rw (none, rest, zero_number) (sym (and_zero_l 0))

-- `n & (n - 1)` clears the lowest bit that is set
pub number_of-without_last_one : (bits : List Bool) → number_of (without_last_one bits) ≡ bit_and (number_of bits) (number_of bits - 1)
unfolding number_of
number_of-without_last_one [] = sym (and_zero_l 0)
number_of-without_last_one (bit ∷ bits) =
    elim (number_by_has_one bits) [
      | inl some ↦ with_lower bit bits some.0 some.1 (number_of-without_last_one bits)
      | inr none ↦ alone bit bits none.0 none.1 none.2
    ]
