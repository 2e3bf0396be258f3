-- The text of pairs, as it is read again.
use Rattle.std.proofs.Common.{◌≡◌, ◌≢◌, ◌∙◌, ℕ, ◌<◌, ◌^◌, Bool, true, false, cond, List, [], ◌∷◌, ◌++◌, length, map, None, Some, Ok, codes, decimal, refl, sym, ap, subst, append_assoc, length-append, eqb, lit<, arith}
use Rattle.std.specs.Prelude.{◌-◌, ◌==◌, not}
use Rattle.std.proofs.lemmas.Fmt.{decimal_digit}
use Rattle.std.specs.List.{AllByRecursion, list_all, list_any}
use Rattle.std.specs.Char.{is_ascii_graphic}
use Rattle.std.proofs.lemmas.Bool.{false≢true}
use Rattle.std.proofs.lemmas.Bool.Decides.{nat_tests}
use Rattle.hex.specs.Hex.{encode_lower}
use Rattle.exh_keyer.specs.declared.any_keyer.AnyKeyer.{AnyKeyer}
use Rattle.exh_keyer.specs.declared.any_keyer.AnyKeyer.TheVariants.{Plain, Sha}
use Rattle.exh_keyer.specs.Pseudokey.{keyer_word}
use Rattle.exh_page.specs.FileSettings.{AreInRange}
use Rattle.exh_page.specs.declared.file_settings.FileSettings.{FileSettings}
use Rattle.exh_prefix.specs.PrefixListLemmas.{AllByRecursion-append}
use Rattle.exh_page.specs.KeyMap.{pair_of}
use Rattle.exh_page.specs.declared.record.Record.{Record}
use Rattle.exh_codec.specs.Cells.{IsSizedPair}
use Rattle.exh_text.specs.ByteWord.{hash, pair_in_range}
use Rattle.exh_text.specs.TextLines.{is_empty, lines_of, newline, parts_at, space, without_empty, words_of}
use Rattle.exh_text.specs.Numbers.{number_after}
use Rattle.exh_text.specs.Printing.{is_plain, printed}
use Rattle.exh_text.specs.TextLemmas.{decimal_graphic, number_again, one_part, parts_at-append, parts_at-word, printed_again, printed_graphic}
use Rattle.exh_text.specs.FileLine.{file_line_of, keyer_of, settings_in_range, spelled_file, spelled_settings, telling_of}
use Rattle.exh_text.specs.declared.settings.Settings.{Settings}
use Rattle.exh_report.specs.ReportLines.{Lines, lines_text}
use Rattle.exh_report.specs.PairsText.{first_words, record_words}
use Rattle.exh_load.specs.Loading.{pair_told}

-- ---- a record

abbrev pub AreAllBytes : List ℕ → Type 0
AreAllBytes bytes = AllByRecursion (λ byte. byte < 256) bytes

-- its key and its value are bytes, in their ranges
pub record IsTellable (r : Record) : Type 0 where
  pub key : AreAllBytes r.key
  pub value : AreAllBytes r.value
  pub sized : IsSizedPair (pair_of r)

printed_at : (plain : Bool) (bytes : List ℕ) → plain ≡ is_plain bytes → 0 < length (cond plain bytes (hash ∷ encode_lower bytes))
printed_at true [] e = absurd (false≢true (sym e))
printed_at true (byte ∷ bytes) e = omega arith
printed_at false bytes e = omega arith

printed_some : (bytes : List ℕ) → 0 < length (printed bytes)
unfolding printed
printed_some bytes = printed_at _ bytes refl

two_words : (a b : List ℕ) → list_all is_ascii_graphic a ≡ true → list_all is_ascii_graphic b ≡ true → 0 < length a → 0 < length b → words_of (a ++ space ∷ b) ≡ Some (a ∷ b ∷ [])
unfolding words_of
two_words a b graphic graphic_too some some_too =
    let parts : parts_at space (a ++ space ∷ b) ≡ a ∷ b ∷ [] = parts_at-word a b graphic ∙ ap (λ l. a ∷ l) (one_part b graphic_too) in
    let first : is_empty a ≡ false = grind (arith, nat_tests) in
    let second : is_empty b ≡ false = grind (arith, nat_tests) in
    rw (parts, first, second) refl

-- it is told as its pair
pub told_again : (r : Record) → IsTellable r → pair_told (record_words r) ≡ Ok (pair_of r)
unfolding pair_told
told_again r can =
    let words = two_words (printed r.key) (printed r.value) (printed_graphic r.key can.key) (printed_graphic r.value can.value) (printed_some r.key) (printed_some r.value) in
    let range : pair_in_range (pair_of r) ≡ true = let some = can.sized.some in let few = can.sized.key in let short = can.sized.value in grind (arith, nat_tests) in
    rw (words, printed_again r.key can.key, printed_again r.value can.value, range) refl

-- ---- the first line

-- what the first line says
abbrev pub settings_told : FileSettings AnyKeyer → Settings
settings_told settings = record { file = record { cap = settings.cap; ward_bits = settings.ward_bits; copies = 1; keyer = settings.keyer }; tells_moves = false }

cap_told : (number : ℕ) → number < 2 ^ 32 → number_after (codes "cap=") (codes "cap=" ++ decimal number) ≡ Some number
unfolding number_after
cap_told number small = number_again (2 ^ 32 - 1) number (omega arith) (omega (arith, small))

wards_told : (number : ℕ) → number < 2 ^ 32 → number_after (codes "wards=") (codes "wards=" ++ decimal number) ≡ Some number
unfolding number_after
wards_told number small = number_again (2 ^ 32 - 1) number (omega arith) (omega (arith, small))

one_copy : decimal 1 ≡ codes "1"
one_copy = decimal_digit 1 (lit< tt)

copies_told : number_after (codes "copies=") (codes "copies=1") ≡ Some 1
unfolding number_after
copies_told = ap (λ digits. number_after (codes "copies=") (codes "copies=" ++ digits)) (sym one_copy) ∙ number_again (2 ^ 32 - 1) 1 (omega arith) (omega arith)

keyer_told : (keyer : AnyKeyer) → keyer_of (codes "keyer=" ++ keyer_word keyer) ≡ Some keyer
unfolding keyer_of
keyer_told Plain = refl
keyer_told Sha = refl

keyer_graphic : (keyer : AnyKeyer) → list_all is_ascii_graphic (codes "keyer=" ++ keyer_word keyer) ≡ true
keyer_graphic Plain = refl
keyer_graphic Sha = refl

abbrev words_told : FileSettings AnyKeyer → Lines
words_told settings = codes "file" ∷ (codes "cap=" ++ decimal settings.cap) ∷ (codes "wards=" ++ decimal settings.ward_bits) ∷ codes "copies=1" ∷ (codes "keyer=" ++ keyer_word settings.keyer) ∷ []

first_parts : (settings : FileSettings AnyKeyer) → AreInRange settings → parts_at space (first_words settings) ≡ words_told settings
first_parts settings range =
    let cap = decimal_graphic settings.cap (omega (arith, range.most)) in
    let bits = decimal_graphic settings.ward_bits (omega (arith, range.bits)) in
    parts_at-word (codes "file") (codes "cap=" ++ (decimal settings.cap ++ (codes " wards=" ++ (decimal settings.ward_bits ++ (codes " copies=1 keyer=" ++ keyer_word settings.keyer))))) refl
    ∙ ap (λ l. codes "file" ∷ l) (parts_at-word (codes "cap=" ++ decimal settings.cap) (codes "wards=" ++ (decimal settings.ward_bits ++ (codes " copies=1 keyer=" ++ keyer_word settings.keyer))) cap
    ∙ ap (λ l. (codes "cap=" ++ decimal settings.cap) ∷ l) (parts_at-word (codes "wards=" ++ decimal settings.ward_bits) (codes "copies=1 keyer=" ++ keyer_word settings.keyer) bits
    ∙ ap (λ l. (codes "wards=" ++ decimal settings.ward_bits) ∷ l) (parts_at-word (codes "copies=1") (codes "keyer=" ++ keyer_word settings.keyer) refl
    ∙ ap (λ l. codes "copies=1" ∷ l) (one_part (codes "keyer=" ++ keyer_word settings.keyer) (keyer_graphic settings.keyer)))))

words_some : (settings : FileSettings AnyKeyer) → list_any is_empty (words_told settings) ≡ false
words_some settings = grind (arith, nat_tests)

first_words_are : (settings : FileSettings AnyKeyer) → AreInRange settings → words_of (first_words settings) ≡ Some (words_told settings)
unfolding words_of
first_words_are settings range = ap (λ parts. cond (list_any is_empty parts) None (Some parts)) (first_parts settings range) ∙ ap (λ b. cond b None (Some (words_told settings))) (words_some settings)

spelled_again : (settings : FileSettings AnyKeyer) → AreInRange settings → spelled_file (words_told settings) ≡ Some (settings_told settings)
unfolding spelled_file spelled_settings telling_of
spelled_again settings range =
    rw (cap_told settings.cap (omega (arith, range.most)), wards_told settings.ward_bits (omega (arith, range.bits)), copies_told, keyer_told settings.keyer) refl

pub first_again : (settings : FileSettings AnyKeyer) → AreInRange settings → file_line_of (first_words settings) ≡ Ok (settings_told settings)
unfolding file_line_of
first_again settings range =
    let within : settings_in_range (settings_told settings) ≡ true = let some = range.some in let most = range.most in let bits = range.bits in grind (arith, nat_tests) in
    rw (first_words_are settings range, spelled_again settings range, within) refl

-- ---- lines

-- some bytes, and no newline among them
pub record IsLine (line : List ℕ) : Type 0 where
  pub some : 0 < length line
  pub no_newline : AllByRecursion (λ byte. byte ≢ newline) line

abbrev IsOther : ℕ → Type 0
IsOther byte = byte ≢ newline

graphic_line : (word : List ℕ) → list_all is_ascii_graphic word ≡ true → AllByRecursion IsOther word
graphic_line [] graphic = tt
graphic_line (byte ∷ word) graphic = ((λ same. let never = subst (λ b. list_all is_ascii_graphic (b ∷ word) ≡ true) same graphic in cc), graphic_line word (grind (arith, nat_tests)))

record_line : (r : Record) → IsTellable r → IsLine (record_words r)
record_line r can = record {
  some = omega (arith, length-append (printed r.key) (codes " " ++ printed r.value), printed_some r.key);
  no_newline = AllByRecursion-append IsOther (printed r.key) (codes " " ++ printed r.value) (graphic_line (printed r.key) (printed_graphic r.key can.key)) ((λ same. cc), graphic_line (printed r.value) (printed_graphic r.value can.value));
}

keyer_line : (keyer : AnyKeyer) → AllByRecursion IsOther (keyer_word keyer)
keyer_line Plain = graphic_line (codes "plain") refl
keyer_line Sha = graphic_line (codes "sha") refl

first_line : (settings : FileSettings AnyKeyer) → AreInRange settings → IsLine (first_words settings)
first_line settings range =
    let cap = graphic_line (decimal settings.cap) (decimal_graphic settings.cap (omega (arith, range.most))) in
    let bits = graphic_line (decimal settings.ward_bits) (decimal_graphic settings.ward_bits (omega (arith, range.bits))) in
    let keyer = keyer_line settings.keyer in record {
      some = omega arith;
      no_newline =
          AllByRecursion-append IsOther (codes "file cap=") (decimal settings.cap ++ (codes " wards=" ++ (decimal settings.ward_bits ++ (codes " copies=1 keyer=" ++ keyer_word settings.keyer)))) (other_codes (codes "file cap=") refl)
          (AllByRecursion-append IsOther (decimal settings.cap) (codes " wards=" ++ (decimal settings.ward_bits ++ (codes " copies=1 keyer=" ++ keyer_word settings.keyer))) cap
          (AllByRecursion-append IsOther (codes " wards=") (decimal settings.ward_bits ++ (codes " copies=1 keyer=" ++ keyer_word settings.keyer)) (other_codes (codes " wards=") refl)
          (AllByRecursion-append IsOther (decimal settings.ward_bits) (codes " copies=1 keyer=" ++ keyer_word settings.keyer) bits
          (AllByRecursion-append IsOther (codes " copies=1 keyer=") (keyer_word settings.keyer) (other_codes (codes " copies=1 keyer=") refl) keyer))));
    }
  where
    other_codes : (word : List ℕ) → list_all (λ b. not (b == newline)) word ≡ true → AllByRecursion IsOther word
    other_codes [] all = tt
    other_codes (byte ∷ word) all = ((λ same. let never = subst (λ b. list_all (λ b. not (b == newline)) (b ∷ word) ≡ true) same all in cc), other_codes word (grind (arith, nat_tests)))

-- they are read again
one_line : (line : List ℕ) → AllByRecursion IsOther line → parts_at newline line ≡ line ∷ []
unfolding parts_at
one_line [] all = refl
one_line (byte ∷ line) all =
    let other : eqb byte newline ≡ false = grind (arith, nat_tests, all.0) in
    rw (other, one_line line all.1) refl

pub lines_again : (lines : Lines) → AllByRecursion IsLine lines → lines_of (lines_text lines) ≡ lines
unfolding lines_of parts_at
lines_again [] all = refl
lines_again (line ∷ lines) all =
    let some : is_empty line ≡ false = let positive = all.0.some in grind (arith, nat_tests) in
    ap (λ text. without_empty (parts_at newline text)) (append_assoc line (newline ∷ []) (lines_text lines))
    ∙ ap without_empty (parts_at-append newline line (lines_text lines) ∙ ap (λ l. l ++ parts_at newline (lines_text lines)) (one_line line all.0.no_newline))
    ∙ rw some (ap (λ l. line ∷ l) (lines_again lines all.1))

-- ---- the records of pages

pub record_lines : (records : List Record) → AllByRecursion IsTellable records → AllByRecursion IsLine (map record_words records)
record_lines [] all = tt
record_lines (r ∷ records) all = (record_line r all.0, record_lines records all.1)

pub text_lines : (settings : FileSettings AnyKeyer) (records : List Record) → AreInRange settings → AllByRecursion IsTellable records → AllByRecursion IsLine (first_words settings ∷ map record_words records)
text_lines settings records range all = (first_line settings range, record_lines records all)
