-- Hexadecimal digits in lower case, two a byte.
use Rattle.std.proofs.Common.{◌≡◌, ◌≢◌, ◌≤◌, ℕ, ◌+◌, ◌*◌, ◌/◌, ◌%◌, List, [], ◌∷◌, ◌++◌, length, take, slice_index, unwrap_or, IsSome, Bool, true, false, ◌&&◌, Option, Some, None, Result, Ok, Err, is_some, refl, ap, sym, ◌∙◌, arith}
use Rattle.std.proofs.lemmas.List.{length-append, take_at}
use Rattle.std.specs.List.{list_all}
use Rattle.std.proofs.lemmas.Bool.{false≢true}
use Rattle.std.proofs.lemmas.Bool.Decides.{nat_tests}
use Rattle.hex.specs.Hex.{hex_digit_value, lower_digits, encode_lower, encode_with, decode_pairs, decode_sized, pair_value, digit_or_error}
use Rattle.hex.specs.declared.error.FromHexError.{FromHexError}
use Rattle.std.specs.Prelude.{MatchResult}
use Rattle.hex.proofs.HexLemmas.{decode_of-even, decode_sized-twice}
use Rattle.hex.proofs.Pairs.{cons_byte, decode_pairs-ok_pair}
use Rattle.exh_text.specs.ByteWord.{hex_digit, hex_bytes}
use Rattle.exh_text.specs.Numbers.{◌>>=◌}

abbrev pub is_hex_digit : ℕ → Bool
is_hex_digit digit = is_some (hex_digit digit)

-- one byte and those behind it, where all are spelled
abbrev with_byte : Option ℕ → Option ℕ → Option (List ℕ) → Option (List ℕ)
with_byte high low bytes = high >>= λ h. low >>= λ l. bytes >>= λ more. Some ((16 * h + l) ∷ more)

is_some-with_byte : (high low : Option ℕ) (bytes : Option (List ℕ)) → is_some (with_byte high low bytes) ≡ (is_some high && (is_some low && is_some bytes))
is_some-with_byte None low bytes = refl
is_some-with_byte (Some h) None bytes = refl
is_some-with_byte (Some h) (Some l) None = refl
is_some-with_byte (Some h) (Some l) (Some bytes) = refl

and-false : (a b : Bool) → (a && (b && false)) ≡ false
and-false true true = refl
and-false true false = refl
and-false false b = refl

pub even_digits : (digits : List ℕ) → length digits % 2 ≡ 0 → is_some (hex_bytes digits) ≡ list_all is_hex_digit digits
even_digits [] even = refl
even_digits (high ∷ []) even = absurd (omega arith)
even_digits (high ∷ low ∷ digits) even =
    is_some-with_byte (hex_digit high) (hex_digit low) (hex_bytes digits) ∙ ap (λ b. is_hex_digit high && (is_hex_digit low && b)) (even_digits digits (omega arith))

pub odd_digits : (digits : List ℕ) → length digits % 2 ≢ 0 → is_some (hex_bytes digits) ≡ false
odd_digits [] odd = absurd (odd refl)
odd_digits (high ∷ []) odd = refl
odd_digits (high ∷ low ∷ digits) odd =
    is_some-with_byte (hex_digit high) (hex_digit low) (hex_bytes digits) ∙ ap (λ b. is_hex_digit high && (is_hex_digit low && b)) (odd_digits digits (λ even. odd (omega arith))) ∙ and-false (is_hex_digit high) (is_hex_digit low)

-- digits in lower case are read alike where upper case is read too
digit_value : (digit value : ℕ) → hex_digit digit ≡ Some value → hex_digit_value digit ≡ Some value
unfolding hex_digit
digit_value digit value read = grind (arith, nat_tests)

module _ (i high low : ℕ) (digits : List ℕ) (behind : (more : List ℕ) → hex_bytes digits ≡ Some more → (decode_pairs (i + 2) digits ≡ Ok more) × (length digits ≡ 2 * length more)) where
  decoded_by : (h l : Option ℕ) (more : Option (List ℕ)) (bytes : List ℕ) → hex_digit high ≡ h → hex_digit low ≡ l → hex_bytes digits ≡ more → with_byte h l more ≡ Some bytes
      → (decode_pairs i (high ∷ low ∷ digits) ≡ Ok bytes) × (length (high ∷ low ∷ digits) ≡ 2 * length bytes)
  decoded_by None l more bytes is_h is_l is_more read = cc
  decoded_by (Some h) None more bytes is_h is_l is_more read = cc
  decoded_by (Some h) (Some l) None bytes is_h is_l is_more read = cc
  decoded_by (Some h) (Some l) (Some more) bytes is_h is_l is_more read =
      let all : (16 * h + l) ∷ more ≡ bytes = cc in
      let rest = behind more is_more in
      let pair : pair_value high low i ≡ Ok (h * 16 + l) =
      rw (ap (digit_or_error high i) (digit_value high h is_h), ap (digit_or_error low (i + 1)) (digit_value low l is_l)) refl in
      let byte : h * 16 + l ≡ 16 * h + l = omega arith in
      let long : length ((16 * h + l) ∷ more) ≡ length bytes = ap length all in (
        decode_pairs-ok_pair i high low _ digits pair ∙ ap (cons_byte (h * 16 + l)) rest.0 ∙ ap (λ (b : ℕ). Ok (b ∷ more)) byte ∙ ap Ok all,
        omega (arith, rest.1, long),
      )

-- what digits in lower case spell is what they are decoded to
pub decoded : (i : ℕ) (digits bytes : List ℕ) → hex_bytes digits ≡ Some bytes → (decode_pairs i digits ≡ Ok bytes) × (length digits ≡ 2 * length bytes)
unfolding decode_pairs
decoded i [] bytes read = let none : [] ≡ bytes = cc in (ap Ok none, ap (λ (bs : List ℕ). 2 * length bs) none)
decoded i (high ∷ []) bytes read = cc
decoded i (high ∷ low ∷ digits) bytes read =
    decoded_by i high low digits (decoded (i + 2) digits) (hex_digit high) (hex_digit low) (hex_bytes digits) bytes refl refl refl read

unwrapped : (spelled : Option (List ℕ)) → IsSome spelled → spelled ≡ Some (unwrap_or spelled [])
unwrapped None some = absurd (false≢true some)
unwrapped (Some bytes) some = refl

pub decode_sized-hex_bytes : (digits : List ℕ) (len : ℕ) → IsSome (hex_bytes digits) → len ≡ length digits / 2
    → (decode_sized digits len ≡ Ok (unwrap_or (hex_bytes digits) [])) × (length (unwrap_or (hex_bytes digits) []) ≡ len)
decode_sized-hex_bytes digits len some half =
    let read = decoded 0 digits (unwrap_or (hex_bytes digits) []) (unwrapped (hex_bytes digits) some) in
    let twice : length digits ≡ 2 * len = omega (arith, read.1) in
    (decode_sized-twice digits len twice ∙ decode_of-even digits (omega arith) ∙ read.0, omega (arith, read.1))

matched : (read : Result (List ℕ) FromHexError) (r : Result Unit FromHexError) (bytes new : List ℕ) → MatchResult read (λ bytes. (r ≡ Ok tt) × (new ≡ bytes)) (λ e. r ≡ Err e) → read ≡ Ok bytes → (r ≡ Ok tt) × (new ≡ bytes)
matched (Ok own) r bytes new match is = let same : own ≡ bytes = cc in (match.0, match.1 ∙ same)
matched (Err e) r bytes new match is = cc

-- what the decoder answers, with room for the bytes of these digits
pub decoded_into : (digits old new : List ℕ) (r : Result Unit FromHexError) → IsSome (hex_bytes digits)
    → MatchResult (decode_sized digits (length old)) (λ bytes. (r ≡ Ok tt) × (new ≡ bytes)) (λ e. r ≡ Err e)
    → length old ≡ length digits / 2 → (r ≡ Ok tt) × (new ≡ unwrap_or (hex_bytes digits) [])
decoded_into digits old new r some match half = matched _ r _ new match (decode_sized-hex_bytes digits (length old) some half).0

-- bytes in two pieces
pub encode_lower-append : (front rest : List ℕ) → encode_lower (front ++ rest) ≡ encode_lower front ++ encode_lower rest
unfolding encode_with
encode_lower-append [] rest = refl
encode_lower-append (byte ∷ front) rest = ap (λ digits. slice_index lower_digits (byte / 16) ∷ slice_index lower_digits (byte % 16) ∷ digits) (encode_lower-append front rest)

pub length-decoded : (digits out : List ℕ) → IsSome (hex_bytes digits) → out ≡ unwrap_or (hex_bytes digits) [] → length out ≡ length digits / 2
length-decoded digits out some is = ap length is ∙ (decode_sized-hex_bytes digits (length digits / 2) some refl).1

-- so many bytes in front of others
pub prefix_within : (n : ℕ) (front rest : List ℕ) → length front ≡ n → n ≤ length (front ++ rest)
prefix_within n front rest is = omega (arith, is, length-append front rest)

pub prefix_whole : (n : ℕ) (front rest : List ℕ) → length front ≡ n → n ≡ length (take n (front ++ rest))
prefix_whole n front rest is = sym (ap length (take_at front rest n is) ∙ is)
