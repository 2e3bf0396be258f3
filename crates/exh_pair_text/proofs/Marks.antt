-- The line of a pair is neither the first nor the last of an export, and reads as the pair.
use Rattle.std.proofs.Common.{◌≡◌, ◌≢◌, ℕ, ◌+◌, ◌-◌, ◌^◌, ◌<◌, ◌≤◌, List, [], ◌∷◌, ◌++◌, length, drop, get_or, ◌⊎◌, Bool, true, false, Option, Some, None, Ok, Decides, inl, inr, refl, sym, ap, ◌∙◌, decimal, length-append, arith}
use Rattle.std.specs.Prelude.{codes, is_some, unwrap_or, nat_eq}
use Rattle.std.specs.List.{AllByRecursion, starts_with}
use Rattle.std.specs.Option.{option_and_then}
use Rattle.std.specs.Str.{bytes_eq}
use Rattle.std.specs.Str.Parse.{digits_value}
use Rattle.std.proofs.lemmas.Bool.{false≢true}
use Rattle.std.proofs.lemmas.Bool.Decides.{Decides-eqb, nat_tests}
use Rattle.std.proofs.lemmas.List.Elements.{recursion_from_All}
use Rattle.std.proofs.lemmas.Option.{cond_some}
use Rattle.std.proofs.lemmas.Slice.Eq.{bytes_eq-Decides, starts_is}
use Rattle.hex.specs.Hex.{lower_digits}
use Rattle.hex.proofs.HexLemmas.{length-encode_with}
use Rattle.exh_pair_text.specs.declared.place.Place.TheVariants.{Start, Quoted}
use Rattle.exh_pair_text.specs.CsvLaws.{FieldsAreRead, RecordsAreWhole}
use Rattle.exh_pair_text.specs.Places.{AreQuoted, place_behind}
use Rattle.exh_text.specs.ByteWord.{bytes_of_word}
use Rattle.exh_text.specs.Numbers.{after_prefix, index_spelled, number_up_to}
use Rattle.exh_text.specs.TextLemmas.{decimal_graphic, number_alone, printed_again}
use Rattle.exh_text.specs.TextLines.{newline}
use Rattle.exh_pair_text.specs.declared.field.Field.TheVariants as field
use Rattle.exh_pair_text.specs.declared.line.Line.TheVariants.{Pair}
use Rattle.exh_pair_text.specs.declared.pair_format.PairFormat.{PairFormat}
use Rattle.exh_pair_text.specs.declared.pair_format.PairFormat.TheVariants as whole
use Rattle.exh_pair_text.specs.declared.separated.Separated.{Separated}
use Rattle.exh_pair_text.specs.declared.separated.Separated.TheVariants.{Words, Tsv}
use Rattle.exh_pair_text.specs.Formats.{format_named, separator, tab}
use Rattle.exh_pair_text.specs.Laws.{IsPair, PairsAreOneLine, PairsAreRead}
use Rattle.exh_pair_text.specs.Json.{in_digits, json_words, string_by}
use Rattle.exh_pair_text.specs.Lines.{csv_words, end_words, field_text, key_text, json_end_words, json_opening, opening_words, separated_words}
use Rattle.exh_pair_text.specs.Parts.{usual}
use Rattle.exh_pair_text.specs.Reading.{before_end, cut_at, end_in, json_end_in, line_read, opening_in, pair_in, separated_pair, text_read}
use Rattle.exh_pair_text.proofs.Again.{field_again, field_other, graphic_other, key_again, key_other}
use Rattle.exh_pair_text.proofs.Cases.{key_kept, value_kept}
use Rattle.exh_pair_text.proofs.CsvAgain.{Begins, csv_again, csv_begins, csv_kept, csv_some, string_some}
use Rattle.exh_pair_text.proofs.Cuts.{cut_behind, cut_nowhere, cut_parts}
use Rattle.exh_pair_text.proofs.JsonAgain.{json_again}
use Rattle.exh_pair_text.proofs.JsonText.{begins_so, words_other}

-- ---- optional values

none_from : {A : Type 0} (found : Option A) → ((x : A) → found ≡ Some x → ⊥) → found ≡ None
none_from None never = refl
none_from (Some x) never = absurd (never x refl)

some_behind : {A B : Type 0} (f : A → Option B) (found : Option A) (y : B) → option_and_then f found ≡ Some y → (x : A) × (found ≡ Some x) × (f x ≡ Some y)
some_behind f None y is = cc
some_behind f (Some x) y is = (x, refl, is)

-- what a word begins with
prefixed : (prefix word rest : List ℕ) → after_prefix prefix word ≡ Some rest → word ≡ prefix ++ rest
prefixed prefix word rest found =
    let is = cond_some _ _ _ found in
    (starts_is Decides-eqb word prefix (starts_with nat_eq word prefix) refl).0 is.0 ∙ ap (λ (end : List ℕ). prefix ++ end) is.1

-- ---- the cut of a pair's line

key_apart : (format : Separated) (hex : Bool) (key : List ℕ) → AllByRecursion (λ byte. byte < 256) key → AllByRecursion (λ byte. byte ≢ separator format) (key_text format hex key)
key_apart Words hex key all = key_other Words hex 32 key (omega arith) all
key_apart Tsv hex key all = key_other Tsv hex tab key (omega arith) all

pair_cut : (format : Separated) (hex : Bool) (key value : List ℕ) → AllByRecursion (λ byte. byte < 256) key → cut_at (separator format) (separated_words format hex key value) ≡ Some (key_text format hex key, field_text format hex value)
pair_cut format hex key value all = cut_behind (separator format) (key_text format hex key) (field_text format hex value) (key_apart format hex key all)

-- ---- words: a mark begins with the word `#`, which is no key

abbrev first_part : Option (List ℕ × List ℕ) → List ℕ
first_part None = []
first_part (Some parts) = parts.0

hash_cut : (rest : List ℕ) → cut_at 32 (35 ∷ 32 ∷ rest) ≡ Some (35 ∷ [], rest)
unfolding cut_at
hash_cut rest = refl

hash_word : bytes_of_word (35 ∷ []) ≡ Some []
unfolding bytes_of_word
hash_word = refl

no_hash : (hex : Bool) (key : List ℕ) → AllByRecursion (λ byte. byte < 256) key → 1 ≤ length key → key_text Words hex key ≡ 35 ∷ [] → ⊥
no_hash true key all some is = omega (arith, ap length is, length-encode_with lower_digits key)
no_hash false key all some is =
    let none : Some key ≡ Some [] = sym (printed_again key all) ∙ ap bytes_of_word is ∙ hash_word in
    omega (arith, ap length (ap (λ found. unwrap_or found []) none))

no_mark : (hex : Bool) (key value rest : List ℕ) → AllByRecursion (λ byte. byte < 256) key → 1 ≤ length key → separated_words Words hex key value ≡ 35 ∷ 32 ∷ rest → ⊥
no_mark hex key value rest all some is =
    let cut = sym (pair_cut Words hex key value all) ∙ ap (cut_at 32) is ∙ hash_cut rest in
    no_hash hex key all some (ap first_part cut)

-- ---- tab-separated text: a mark has no tab

some_none : {A : Type 0} (x : A) → Some x ≡ None → ⊥
some_none x is = false≢true (sym (ap is_some is))

-- no line is one in which nothing parts a key from a value
no_cut : (format : Separated) (hex : Bool) (key value line : List ℕ) → AllByRecursion (λ byte. byte < 256) key → separated_words format hex key value ≡ line → cut_at (separator format) line ≡ None → ⊥
no_cut format hex key value line all is none =
    some_none _ (sym (pair_cut format hex key value all) ∙ ap (cut_at (separator format)) is ∙ none)

-- a test that tells
eq_tells : {A : Type 0} (b : Bool) (x y : A) → Decides b (x ≡ y) → (x ≡ y) ⊎ ((b ≡ false) × (x ≡ y → ⊥))
eq_tells true x y decides = inl (decides.0 refl)
eq_tells false x y decides = inr (refl, λ same. absurd (false≢true (decides.1 same)))

unnamed : (word : List ℕ) (format : PairFormat) → bytes_eq word (codes "words") ≡ false → bytes_eq word (codes "tsv") ≡ false → bytes_eq word (codes "jsonl") ≡ false → bytes_eq word (codes "csv") ≡ false
    → format_named word ≡ Some format → ⊥
unnamed word format words tsv jsonl csv is = let none : None ≡ Some format = rw (words, tsv, jsonl, csv) at is in cc

named : (word : List ℕ) (format : PairFormat) → format_named word ≡ Some format → cut_at tab (opening_words ++ word) ≡ None
unfolding cut_at
named word format is = elim (eq_tells (bytes_eq word (codes "words")) word (codes "words") (bytes_eq-Decides word (codes "words"))) [
  | inl words ↦ rw words refl
  | inr other ↦ elim (eq_tells (bytes_eq word (codes "tsv")) word (codes "tsv") (bytes_eq-Decides word (codes "tsv"))) [
    | inl tsv ↦ rw tsv refl
    | inr neither ↦ elim (eq_tells (bytes_eq word (codes "jsonl")) word (codes "jsonl") (bytes_eq-Decides word (codes "jsonl"))) [
      | inl jsonl ↦ rw jsonl refl
      | inr last ↦ elim (eq_tells (bytes_eq word (codes "csv")) word (codes "csv") (bytes_eq-Decides word (codes "csv"))) [
        | inl csv ↦ rw csv refl
        | inr none ↦ absurd (unnamed word format other.0 neither.0 last.0 none.0 is)
      ]
    ]
  ]
]

counted_cut : (word : List ℕ) → cut_at tab word ≡ None → cut_at tab (end_words ++ word) ≡ None
unfolding cut_at
counted_cut word none = rw none refl

index_small : (word : List ℕ) (count : ℕ) → index_spelled word ≡ Some count → count < 2 ^ 64
unfolding number_up_to
index_small word count is =
    let found = cond_some _ _ _ is in
    let within : digits_value 10 word ≤ 2 ^ 64 - 1 = grind (arith, nat_tests) in
    omega (arith, found.1)

counted : (word : List ℕ) (count : ℕ) → index_spelled word ≡ Some count → cut_at tab (end_words ++ word) ≡ None
counted word count is =
    let small : count < 2 ^ 64 = index_small word count is in
    let same = number_alone (2 ^ 64 - 1) count word (omega arith) is in
    counted_cut word (cut_nowhere tab word (rw same (graphic_other tab (decimal count) (omega arith) (decimal_graphic count small))))

-- ---- JSON's marks have no space and no tab

json_opening_cut : (format : Separated) → cut_at (separator format) json_opening ≡ None
unfolding cut_at
json_opening_cut Words = refl
json_opening_cut Tsv = refl

json_end_cut : (format : Separated) (text : List ℕ) → cut_at (separator format) text ≡ None → cut_at (separator format) (json_end_words ++ text) ≡ None
unfolding cut_at
json_end_cut Words text none = rw none refl
json_end_cut Tsv text none = rw none refl

separator_low : (format : Separated) → separator format < 33
separator_low Words = omega arith
separator_low Tsv = omega arith

ended_other : (format : Separated) (word : List ℕ) → AllByRecursion (λ byte. byte ≢ separator format) word → AllByRecursion (λ byte. byte ≢ separator format) (word ++ 125 ∷ [])
ended_other Words [] all = (λ is. absurd (omega arith), tt)
ended_other Tsv [] all = (λ is. absurd (omega arith), tt)
ended_other format (byte ∷ word) all = (all.0, ended_other format word all.1)

number_other : (format : Separated) (word : List ℕ) (count : ℕ) → index_spelled word ≡ Some count → AllByRecursion (λ byte. byte ≢ separator format) (word ++ 125 ∷ [])
number_other format word count is =
    let small : count < 2 ^ 64 = index_small word count is in
    let same = number_alone (2 ^ 64 - 1) count word (omega arith) is in
    rw same (ended_other format (decimal count) (graphic_other (separator format) (decimal count) (separator_low format) (decimal_graphic count small)))

before_is : (parts : Option (List ℕ × List ℕ)) (digits : List ℕ) → before_end parts ≡ Some digits → parts ≡ Some (digits, [])
before_is None digits is = cc
before_is (Some (front, [])) digits is = cc
before_is (Some (front, byte ∷ rest)) digits is = cc

json_counted : (format : Separated) (line : List ℕ) (count : ℕ) → json_end_in line ≡ Some count → cut_at (separator format) line ≡ None
unfolding json_end_in
json_counted format line count is =
    let text = some_behind (λ text. option_and_then index_spelled (before_end (cut_at 125 text))) (after_prefix json_end_words line) count is in
    let digits = some_behind index_spelled (before_end (cut_at 125 text.0)) count text.2 in
    let parts = cut_parts 125 text.0 digits.0 [] (before_is (cut_at 125 text.0) digits.0 digits.1) in
    let none : cut_at (separator format) text.0 ≡ None = rw parts (cut_nowhere (separator format) (digits.0 ++ 125 ∷ []) (number_other format digits.0 count digits.2)) in
    rw (prefixed json_end_words line text.0 text.1) (json_end_cut format text.0 none)

-- ---- no mark

words_opening : (format : Separated) (hex : Bool) (key value : List ℕ) → AllByRecursion (λ byte. byte < 256) key → 1 ≤ length key → option_and_then format_named (after_prefix opening_words (separated_words format hex key value)) ≡ None
words_opening Words hex key value all some = none_from _ (λ named is.
    let found = some_behind format_named (after_prefix opening_words (separated_words Words hex key value)) named is in
    no_mark hex key value (drop 2 opening_words ++ found.0) all some (prefixed opening_words (separated_words Words hex key value) found.0 found.1))
words_opening Tsv hex key value all some = none_from _ (λ format is.
    let found = some_behind format_named (after_prefix opening_words (separated_words Tsv hex key value)) format is in
    no_cut Tsv hex key value (opening_words ++ found.0) all (prefixed opening_words (separated_words Tsv hex key value) found.0 found.1) (named found.0 format found.2))

opening_by : (line : List ℕ) → (line ≡ json_opening → ⊥) → option_and_then format_named (after_prefix opening_words line) ≡ None → opening_in line ≡ None
unfolding opening_in
opening_by line other none = elim (eq_tells (bytes_eq line json_opening) line json_opening (bytes_eq-Decides line json_opening)) [
  | inl is ↦ absurd (other is)
  | inr unlike ↦ rw (unlike.0, none) refl
]

no_opening : (format : Separated) (hex : Bool) (key value : List ℕ) → AllByRecursion (λ byte. byte < 256) key → 1 ≤ length key → opening_in (separated_words format hex key value) ≡ None
no_opening format hex key value all some =
    opening_by (separated_words format hex key value) (λ is. no_cut format hex key value json_opening all is (json_opening_cut format)) (words_opening format hex key value all some)

words_end : (format : Separated) (hex : Bool) (key value : List ℕ) → AllByRecursion (λ byte. byte < 256) key → 1 ≤ length key → option_and_then index_spelled (after_prefix end_words (separated_words format hex key value)) ≡ None
words_end Words hex key value all some = none_from _ (λ count is.
    let found = some_behind index_spelled (after_prefix end_words (separated_words Words hex key value)) count is in
    no_mark hex key value (drop 2 end_words ++ found.0) all some (prefixed end_words (separated_words Words hex key value) found.0 found.1))
words_end Tsv hex key value all some = none_from _ (λ count is.
    let found = some_behind index_spelled (after_prefix end_words (separated_words Tsv hex key value)) count is in
    no_cut Tsv hex key value (end_words ++ found.0) all (prefixed end_words (separated_words Tsv hex key value) found.0 found.1) (counted found.0 count found.2))

no_end : (format : Separated) (hex : Bool) (key value : List ℕ) → AllByRecursion (λ byte. byte < 256) key → 1 ≤ length key → end_in (separated_words format hex key value) ≡ None
unfolding end_in
no_end format hex key value all some =
    let json : json_end_in (separated_words format hex key value) ≡ None = none_from _ (λ count is.
    no_cut format hex key value (separated_words format hex key value) all refl (json_counted format (separated_words format hex key value) count is)) in
    rw (words_end format hex key value all some, json) refl

-- ---- the pair

pair_again : (format : Separated) (hex : Bool) (key value : List ℕ) → IsPair key value → separated_pair format hex (separated_words format hex key value) ≡ Ok (key, value)
unfolding separated_pair
pair_again format hex key value pair =
    let keys = recursion_from_All _ key pair.key_bytes in
    let values = recursion_from_All _ value pair.value_bytes in
    rw (
      pair_cut format hex key value keys,
      key_again format hex field.Key 1 key keys,
      key_kept key pair.some pair.key_limit,
      field_again format hex field.Value (length (key_text format hex key) + 2) value values,
      value_kept value pair.value_limit,
    ) refl

line_by : (format : PairFormat) (hex : Bool) (line : List ℕ) (pair : List ℕ × List ℕ) → opening_in line ≡ None → end_in line ≡ None → pair_in format hex usual line ≡ Ok pair → (line ≡ [] → ⊥) → text_read format hex usual line ≡ Pair pair.0 pair.1
unfolding text_read
line_by format hex [] pair opening end is some = absurd (some refl)
line_by format hex (byte ∷ line) pair opening end is some = rw (opening, end, is) refl

not_empty : (format : Separated) (hex : Bool) (key value : List ℕ) → separated_words format hex key value ≡ [] → ⊥
not_empty format hex key value is = omega (arith, ap length is, length-append (key_text format hex key) (separator format ∷ field_text format hex value))

-- an object is no mark
object_opening : (rest : List ℕ) → opening_in (123 ∷ 34 ∷ 107 ∷ rest) ≡ None
unfolding opening_in
object_opening rest = refl

object_end : (rest : List ℕ) → end_in (123 ∷ 34 ∷ 107 ∷ rest) ≡ None
unfolding end_in json_end_in
object_end rest = refl

object_read : (hex : Bool) (key value : List ℕ) → IsPair key value → line_read whole.Jsonl hex usual (json_words hex key value) ≡ Pair key value
object_read hex key value pair =
    let begins = begins_so (in_digits hex key) (in_digits hex value) key value in
    line_by whole.Jsonl hex (json_words hex key value) (key, value) (ap opening_in begins.1 ∙ object_opening begins.0) (ap end_in begins.1 ∙ object_end begins.0) (json_again hex key value pair)
    (λ is. omega (arith, ap length is, ap length begins.1))

words_read : (format : PairFormat) (apart : Separated) (hex : Bool) (key value : List ℕ) → IsPair key value → pair_in format hex usual (separated_words apart hex key value) ≡ separated_pair apart hex (separated_words apart hex key value)
    → text_read format hex usual (separated_words apart hex key value) ≡ Pair key value
words_read format apart hex key value pair same =
    let keys = recursion_from_All _ key pair.key_bytes in
    line_by format hex (separated_words apart hex key value) (key, value) (no_opening apart hex key value keys pair.some) (no_end apart hex key value keys pair.some)
    (same ∙ pair_again apart hex key value pair) (not_empty apart hex key value)

-- a record is no mark: it begins with a quote, or with another byte than `#` and no quote behind it
quoted_opening : (rest : List ℕ) → opening_in (34 ∷ rest) ≡ None
unfolding opening_in
quoted_opening rest = refl

quoted_end : (rest : List ℕ) → end_in (34 ∷ rest) ≡ None
unfolding end_in json_end_in
quoted_end rest = refl

abbrev first_byte_of : List ℕ → ℕ
first_byte_of line = get_or line 0 0

abbrev second_byte_of : List ℕ → ℕ
second_byte_of line = get_or line 1 0

plain_opening : (line : List ℕ) → first_byte_of line ≢ 35 → second_byte_of line ≢ 34 → opening_in line ≡ None
unfolding opening_in
plain_opening line first second = elim (eq_tells (bytes_eq line json_opening) line json_opening (bytes_eq-Decides line json_opening)) [
  | inl same ↦ absurd (second (ap second_byte_of same))
  | inr other ↦
      let none : option_and_then format_named (after_prefix opening_words line) ≡ None = none_from _ (λ named is.
      let found = some_behind format_named (after_prefix opening_words line) named is in
      absurd (first (ap first_byte_of (prefixed opening_words line found.0 found.1)))) in
      rw (other.0, none) refl
]

plain_end : (line : List ℕ) → first_byte_of line ≢ 35 → second_byte_of line ≢ 34 → end_in line ≡ None
unfolding end_in json_end_in
plain_end line first second =
    let words : option_and_then index_spelled (after_prefix end_words line) ≡ None = none_from _ (λ count is.
    let found = some_behind index_spelled (after_prefix end_words line) count is in
    absurd (first (ap first_byte_of (prefixed end_words line found.0 found.1)))) in
    let json : json_end_in line ≡ None = none_from _ (λ count is.
    let text = some_behind (λ text. option_and_then index_spelled (before_end (cut_at 125 text))) (after_prefix json_end_words line) count is in
    absurd (second (ap second_byte_of (prefixed json_end_words line text.0 text.1)))) in
    rw (words, json) refl

begun_opening : (line : List ℕ) → Begins line → opening_in line ≡ None
begun_opening line (inl (rest, is)) = ap opening_in is ∙ quoted_opening rest
begun_opening line (inr (first, second)) = plain_opening line first second

begun_end : (line : List ℕ) → Begins line → end_in line ≡ None
begun_end line (inl (rest, is)) = ap end_in is ∙ quoted_end rest
begun_end line (inr (first, second)) = plain_end line first second

record_read : FieldsAreRead → (hex : Bool) (key value : List ℕ) → IsPair key value → line_read whole.Csv hex usual (csv_words hex key value) ≡ Pair key value
record_read law hex key value pair =
    let some = string_some hex key pair.some in
    let begins = csv_begins hex key value some in
    ap (text_read whole.Csv hex usual) (csv_kept hex key value)
    ∙ line_by whole.Csv hex (csv_words hex key value) (key, value) (begun_opening (csv_words hex key value) begins) (begun_end (csv_words hex key value) begins) (csv_again law hex key value pair) (csv_some hex key value some)

pub pairs_are_read : FieldsAreRead → PairsAreRead
pairs_are_read law whole.Words hex key value pair = words_read whole.Words Words hex key value pair refl
pairs_are_read law whole.Tsv hex key value pair = words_read whole.Tsv Tsv hex key value pair refl
pairs_are_read law whole.Jsonl hex key value pair = object_read hex key value pair
pairs_are_read law whole.Csv hex key value pair = record_read law hex key value pair

parted_other : (front : List ℕ) (byte : ℕ) (rest : List ℕ) → AllByRecursion (λ b. b ≢ newline) front → byte ≢ newline → AllByRecursion (λ b. b ≢ newline) rest → AllByRecursion (λ b. b ≢ newline) (front ++ byte ∷ rest)
parted_other [] byte rest before is all = (is, all)
parted_other (first ∷ front) byte rest before is all = (before.0, parted_other front byte rest before.1 is all)

words_one_line : (format : Separated) (hex : Bool) (key value : List ℕ) → IsPair key value → AllByRecursion (λ byte. byte ≢ newline) (separated_words format hex key value)
words_one_line Words hex key value pair =
    parted_other (key_text Words hex key) 32 (field_text Words hex value) (key_other Words hex newline key (omega arith) (recursion_from_All _ key pair.key_bytes)) (λ is. absurd (omega arith))
    (field_other Words hex newline value (omega arith) (recursion_from_All _ value pair.value_bytes))
words_one_line Tsv hex key value pair =
    parted_other (key_text Tsv hex key) 9 (field_text Tsv hex value) (key_other Tsv hex newline key (omega arith) (recursion_from_All _ key pair.key_bytes)) (λ is. absurd (omega arith))
    (field_other Tsv hex newline value (omega arith) (recursion_from_All _ value pair.value_bytes))

-- ---- one line

one_line : (line : List ℕ) → AllByRecursion (λ byte. byte ≢ newline) line → AreQuoted (λ place byte. Start) Start line
one_line [] all = tt
one_line (byte ∷ line) all = (λ is. absurd (all.0 is), one_line line all.1)

always_start : (line : List ℕ) → place_behind (λ place byte. Start) Start line ≡ Start
always_start [] = refl
always_start (byte ∷ line) = always_start line

start_open : Start ≡ Quoted → ⊥
start_open is = cc

plain_line : (line : List ℕ) → AllByRecursion (λ byte. byte ≢ newline) line → AreQuoted (λ place byte. Start) Start line × (place_behind (λ place byte. Start) Start line ≢ Quoted)
plain_line line all = (one_line line all, λ is. start_open (sym (always_start line) ∙ is))

pub pairs_are_one_line : RecordsAreWhole → PairsAreOneLine
pairs_are_one_line law whole.Words hex key value pair = plain_line (separated_words Words hex key value) (words_one_line Words hex key value pair)
pairs_are_one_line law whole.Tsv hex key value pair = plain_line (separated_words Tsv hex key value) (words_one_line Tsv hex key value pair)
pairs_are_one_line law whole.Jsonl hex key value pair = plain_line (json_words hex key value) (words_other (in_digits hex key) (in_digits hex value) key value)
pairs_are_one_line law whole.Csv hex key value pair = law (string_by hex key) (string_by hex value ∷ [])
