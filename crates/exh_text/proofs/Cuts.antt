-- Where a byte first cuts bytes.
use Rattle.std.proofs.Common.{◌≡◌, ℕ, ◌+◌, ◌-◌, ◌<◌, List, [], ◌∷◌, length, take, drop, cond, eqb, ltb, Option, Some, None, refl, arith}
use Rattle.std.specs.List.{position_or_len}
use Rattle.std.proofs.lemmas.Bool.{false_from_ne_true, le-ltb, lt-ltb}
use Rattle.std.proofs.lemmas.Bool.Decides.{nat_tests}
use Rattle.std.proofs.lemmas.List.{take_rest}
use Rattle.std.proofs.lemmas.List.Sums.{fails_before_first, position_or_len_is}
use Rattle.std.proofs.lemmas.List.Splits.{slice_split_first, slice_split_none}
use Rattle.std.proofs.lemmas.Option.{cond_some}
use Rattle.memchr.specs.Find.{IsFirstByte, is_byte}
use Rattle.exh_text.specs.TextLines.{parts_at}

-- what `position` answers of the byte
abbrev pub first_at : ℕ → List ℕ → Option ℕ
first_at byte bytes = cond (ltb (position_or_len (λ b. eqb b byte) bytes) (length bytes)) (Some (position_or_len (λ b. eqb b byte) bytes)) None

pub parts_at_first : (byte : ℕ) (bytes : List ℕ) (end : ℕ) → first_at byte bytes ≡ Some end → parts_at byte bytes ≡ take end bytes ∷ parts_at byte (take (length bytes - (end + 1)) (drop (end + 1) bytes))
unfolding parts_at
parts_at_first byte bytes end found =
    let cut = cond_some _ _ _ found in
    rw take_rest (rw (← cut.1) (slice_split_first (λ b. eqb b byte) bytes 0 (grind (arith, nat_tests, cut.0))))

pub parts_at_none : (byte : ℕ) (bytes : List ℕ) → first_at byte bytes ≡ None → parts_at byte bytes ≡ bytes ∷ []
unfolding parts_at
parts_at_none byte bytes none =
    slice_split_none (λ b. eqb b byte) bytes (λ k d within. fails_before_first (λ b. eqb b byte) bytes k d (grind (arith, nat_tests)))

-- it is what `memchr` answers
pub first_by_search : (byte : ℕ) (bytes : List ℕ) (found : Option ℕ) → IsFirstByte (is_byte byte) bytes found → first_at byte bytes ≡ found
first_by_search byte bytes None none =
    let at : position_or_len (λ b. eqb b byte) bytes ≡ length bytes =
    position_or_len_is (λ b. eqb b byte) bytes (length bytes) 0 (omega arith) (λ k before. false_from_ne_true _ (none k (omega arith) before)) (λ within. absurd (omega (arith, within))) in
    rw at (rw (le-ltb (length bytes) (length bytes) (omega arith)) refl)
first_by_search byte bytes (Some end) first =
    let within : end < length bytes = first.0.high in
    let at : position_or_len (λ b. eqb b byte) bytes ≡ end =
    position_or_len_is (λ b. eqb b byte) bytes end 0 (omega (arith, within)) (λ k before. false_from_ne_true _ (first.0.before k (omega arith) before)) (λ _. first.1) in
    rw at (rw (lt-ltb end (length bytes) within) refl)
