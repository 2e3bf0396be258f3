-- The digits of a prefix, read off its low bound.
use Rattle.std.proofs.Common.{◌≡◌, ℕ, ◌+◌, ◌-◌, ◌*◌, ◌/◌, ◌%◌, ◌^◌, ◌<◌, ◌≤◌, Bool, true, false, cond, List, [], ◌∷◌, ◌++◌, length, map, take, drop, get_or, refl, sym, ap, ◌∙◌, subst, arith}
use Rattle.std.proofs.lemmas.List.{map_more, take-append-le, take_more}
use Rattle.std.proofs.lemmas.Nat.{div-mul-add}
use Rattle.exh_prefix.specs.Bits.{number_of, word_bits}
use Rattle.exh_prefix.specs.Prefix.{bit_digit, low_of, prefix_text, zeros}
use Rattle.exh_prefix.specs.PrefixLemmas.{last_of-number, low_of-word, word_bits-low_of, word_rest-lt, word_split}

-- the number that a prefix and the bits up to a place spell
front_number : (prefix : List Bool) (place : ℕ) → length prefix ≤ 64 → place < length prefix → low_of prefix / 2 ^ (63 - place) ≡ number_of (take (place + 1) prefix)
front_number prefix place short within =
    let low = low_of prefix in
    let len = place + 1 in
    let less : 64 - len ≡ 63 - place = omega arith in
    let split : low ≡ number_of (take len (word_bits low)) * 2 ^ (63 - place) + number_of (drop len (word_bits low)) =
    subst (λ n. low ≡ number_of (take len (word_bits low)) * 2 ^ n + number_of (drop len (word_bits low))) less (word_split len low (omega arith) (low_of-word prefix short)) in
    let rest : number_of (drop len (word_bits low)) < 2 ^ (63 - place) = subst (λ n. number_of (drop len (word_bits low)) < 2 ^ n) less (word_rest-lt len low (omega arith)) in
    let front : take len (word_bits low) ≡ take len prefix = ap (take len) (word_bits-low_of prefix short) ∙ take-append-le len prefix (zeros (64 - length prefix)) (omega arith) in
    ap (λ n. n / 2 ^ (63 - place)) split ∙ div-mul-add (number_of (take len (word_bits low))) (2 ^ (63 - place)) (number_of (drop len (word_bits low))) rest ∙ ap number_of front

bit_at : (prefix : List Bool) (place : ℕ) → length prefix ≤ 64 → place < length prefix → low_of prefix / 2 ^ (63 - place) % 2 ≡ cond (get_or prefix place false) 1 0
bit_at prefix place short within =
    ap (λ n. n % 2) (front_number prefix place short within ∙ ap number_of (take_more prefix place false within)) ∙ last_of-number (take place prefix) (get_or prefix place false)

digit_of : (bit : Bool) (number : ℕ) → number ≡ cond bit 1 0 → bit_digit bit ≡ 48 + number
digit_of true number is = ap (λ n. 48 + n) (sym is)
digit_of false number is = ap (λ n. 48 + n) (sym is)

-- one digit more
pub digit_more : (prefix : List Bool) (place digit : ℕ) → length prefix ≤ 64 → place < length prefix → digit ≡ 48 + low_of prefix / 2 ^ (63 - place) % 2
    → map bit_digit (take (place + 1) prefix) ≡ map bit_digit (take place prefix) ++ digit ∷ []
digit_more prefix place digit short within is =
    map_more bit_digit prefix place false within
    ∙ ap (λ d. map bit_digit (take place prefix) ++ d ∷ []) (digit_of (get_or prefix place false) _ (bit_at prefix place short within) ∙ sym is)

-- the digits of a prefix that isn't empty
pub text_of_digits : (prefix : List Bool) → (prefix ≡ [] → ⊥) → prefix_text prefix ≡ map bit_digit prefix
text_of_digits [] some = absurd (some refl)
text_of_digits (bit ∷ bits) some = refl
