-- The lines of a text of pairs, as they are written.
use Rattle.std.specs.Prelude.{ℕ, List, [], ◌∷◌, ◌++◌, Bool, true, false, codes, decimal, flat_map}
use Rattle.hex.specs.Hex.{encode_lower}
use Rattle.exh_text.specs.Contents.{on_line}
use Rattle.exh_text.specs.Printing.{printed}
use Rattle.exh_pair_text.specs.Rows.{row_words}
use Rattle.exh_pair_text.specs.declared.pair_format.PairFormat.{PairFormat}
use Rattle.exh_pair_text.specs.declared.pair_format.PairFormat.TheVariants.{Words, Tsv, Jsonl, Csv}
use Rattle.exh_pair_text.specs.declared.separated.Separated.{Separated}
use Rattle.exh_pair_text.specs.declared.separated.Separated.TheVariants as apart
use Rattle.exh_pair_text.specs.Bytes.{byte_text, leading_text}
use Rattle.exh_pair_text.specs.Formats.{format_name, separator}
use Rattle.exh_pair_text.specs.Json.{json_words, string_by}

-- a key or a value beside a separating byte
abbrev pub field_text : Separated → Bool → List ℕ → List ℕ
field_text format true bytes = encode_lower bytes
field_text apart.Words false bytes = printed bytes
field_text apart.Tsv false bytes = flat_map byte_text bytes

-- a key, with which a line begins
abbrev pub key_text : Separated → Bool → List ℕ → List ℕ
key_text format true bytes = encode_lower bytes
key_text apart.Words false bytes = printed bytes
key_text apart.Tsv false bytes = leading_text bytes

abbrev pub separated_words : Separated → Bool → List ℕ → List ℕ → List ℕ
separated_words format hex key value = key_text format hex key ++ separator format ∷ field_text format hex value

-- a record of two fields, of bytes or of their hexadecimal digits
abbrev pub csv_words : Bool → List ℕ → List ℕ → List ℕ
csv_words hex key value = row_words (string_by hex key) (string_by hex value ∷ [])

-- a pair, without the newline and with it
abbrev pub pair_words : PairFormat → Bool → List ℕ → List ℕ → List ℕ
pair_words Words hex key value = separated_words apart.Words hex key value
pair_words Tsv hex key value = separated_words apart.Tsv hex key value
pair_words Jsonl hex key value = json_words hex key value
pair_words Csv hex key value = csv_words hex key value

abbrev pub pair_line : PairFormat → Bool → List ℕ → List ℕ → List ℕ
pair_line format hex key value = on_line (pair_words format hex key value)

-- what an export begins and ends with
abbrev pub opening_words : List ℕ
opening_words = codes "# exhash export "

abbrev pub end_words : List ℕ
end_words = codes "# exhash end "

abbrev pub json_opening : List ℕ
json_opening = codes "{\"exhash\":\"export\",\"format\":\"jsonl\"}"

abbrev pub json_end_words : List ℕ
json_end_words = codes "{\"exhash\":\"end\",\"pairs\":"

abbrev pub opening_text : PairFormat → List ℕ
opening_text Words = opening_words ++ format_name Words
opening_text Tsv = opening_words ++ format_name Tsv
opening_text Jsonl = json_opening
opening_text Csv = opening_words ++ format_name Csv

abbrev pub opening_line : PairFormat → List ℕ
opening_line format = on_line (opening_text format)

-- what stands before the number of pairs, and behind it
abbrev pub end_before : PairFormat → List ℕ
end_before Words = end_words
end_before Tsv = end_words
end_before Jsonl = json_end_words
end_before Csv = end_words

abbrev pub end_behind : PairFormat → List ℕ
end_behind Words = codes "\n"
end_behind Tsv = codes "\n"
end_behind Jsonl = codes "}\n"
end_behind Csv = codes "\n"

abbrev pub end_line : PairFormat → ℕ → List ℕ
end_line format count = end_before format ++ (decimal count ++ end_behind format)
