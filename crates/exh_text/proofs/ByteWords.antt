-- Words that stand for bytes.
use Rattle.std.proofs.Common.{◌≡◌, ◌≢◌, ℕ, ◌-◌, ◌<◌, ◌≤◌, List, [], ◌∷◌, length, take, drop, get_or, cond, Some, None, refl, arith}
use Rattle.std.specs.Char.{is_ascii_graphic}
use Rattle.std.specs.List.{list_all}
use Rattle.std.proofs.lemmas.List.{take_rest}
use Rattle.std.proofs.lemmas.Bool.Decides.{nat_tests}
use Rattle.exh_text.specs.ByteWord.{hash, hex_bytes, bytes_of_word}

-- by the first byte, as the code reads it
pub word_empty : (word : List ℕ) → length word < 1 → bytes_of_word word ≡ None
unfolding bytes_of_word
word_empty [] short = refl
word_empty (byte ∷ word) short = absurd (omega arith)

pub word_hex : (word : List ℕ) → 1 ≤ length word → get_or word 0 0 ≡ hash → bytes_of_word word ≡ hex_bytes (take (length word - 1) (drop 1 word))
unfolding bytes_of_word
word_hex [] some mark = absurd (omega arith)
word_hex (byte ∷ word) some mark = rw (take_rest, mark) refl

pub word_own : (word : List ℕ) → 1 ≤ length word → get_or word 0 0 ≢ hash → bytes_of_word word ≡ cond (list_all is_ascii_graphic word) (Some word) None
unfolding bytes_of_word
word_own [] some other = absurd (omega arith)
word_own (byte ∷ word) some other = grind (arith, nat_tests)

pub ruleset word_cases = (word_empty, word_hex, word_own)
