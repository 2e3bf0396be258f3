-- What a line of a text of pairs reads as.
use Rattle.std.specs.Prelude.{ℕ, zero, suc, ◌+◌, ◌-◌, ◌==◌, ◌&&◌, List, [], ◌∷◌, length, get_or, take, nat_le, nat_lt, Bool, true, false, if◌then◌else◌, Option, Some, None, Result, Ok, Err}
use Rattle.std.specs.Str.{bytes_eq, is_utf8}
use Rattle.std.specs.Option.{option_and_then, option_map}
use Rattle.json.specs.Find.{as_str, get}
use Rattle.json.specs.Json.{Json, document}
use Rattle.exh_page.specs.declared.key.TheConstants.{KEY_LIMIT}
use Rattle.exh_page.specs.declared.value.TheConstants.{VALUE_LIMIT}
use Rattle.exh_text.specs.ByteWord.{bytes_of_word}
use Rattle.exh_text.specs.Numbers.{after_prefix, index_spelled}
use Rattle.exh_pair_text.specs.declared.field.Field.{Field}
use Rattle.exh_pair_text.specs.declared.field.Field.TheVariants.{Key, Value}
use Rattle.exh_pair_text.specs.declared.line.Line.{Line}
use Rattle.exh_pair_text.specs.declared.line.Line.TheVariants.{Pair, Opening, End, Empty, Wrong}
use Rattle.exh_pair_text.specs.declared.pair_format.PairFormat.{PairFormat}
use Rattle.exh_pair_text.specs.declared.pair_format.PairFormat.TheVariants.{Words, Tsv, Jsonl, Csv}
use Rattle.exh_pair_text.specs.declared.separated.Separated.{Separated}
use Rattle.exh_pair_text.specs.declared.separated.Separated.TheVariants as apart
use Rattle.exh_pair_text.specs.declared.wrong_line.WrongLine.{WrongLine}
use Rattle.exh_pair_text.specs.declared.wrong_line.WrongLine.TheVariants.{NoValue, EmptyKey, LongKey, LongValue, NoWord, NoDigits, NoEscape, SecondTab, NoJson, NoField, NoString, NoHex, TwoFields, NoRecord, Fields}
use Rattle.exh_pair_text.specs.Fields.{fields_in}
use Rattle.exh_pair_text.specs.declared.wrong_record.WrongRecord.{WrongRecord}
use Rattle.exh_pair_text.specs.Bytes.{first_byte, return}
use Rattle.exh_pair_text.specs.Formats.{format_named, separator, tab}
use Rattle.exh_pair_text.specs.Lines.{end_words, json_end_words, json_opening, opening_words}
use Rattle.exh_pair_text.specs.Parts.{Parts, digits_of}
use Rattle.exh_pair_text.specs.declared.columns.Columns.{Columns}

-- the first fault decides
infixl 10 ◌>>=◌
abbrev pub ◌>>=◌ : {A B : Type 0} → Result A WrongLine → (A → Result B WrongLine) → Result B WrongLine
Ok found >>= next = next found
Err wrong >>= next = Err wrong

abbrev pub or_wrong : {A : Type 0} → WrongLine → Option A → Result A WrongLine
or_wrong wrong (Some found) = Ok found
or_wrong wrong None = Err wrong

-- ---- bytes

-- why no byte begins with this one of the line
abbrev pub wrong_byte : Bool → ℕ → ℕ → WrongLine
wrong_byte true byte at = NoDigits at
wrong_byte false byte at = if byte == tab then SecondTab at else NoEscape at

-- The bytes that a text spells, one behind the other, of which the first stands at this place of the line. So many of the text
-- belong to a byte before.
unfoldable pub bytes_from : Bool → ℕ → ℕ → List ℕ → Result (List ℕ) WrongLine
bytes_from hex at skip [] = Ok []
bytes_from hex at zero (byte ∷ text) = do
  found ← or_wrong (wrong_byte hex byte at) (first_byte hex (byte ∷ text))
  bytes ← bytes_from hex (at + 1) (found.1 - 1) text
  Ok (found.0 ∷ bytes)
bytes_from hex at (suc skip) (byte ∷ text) = bytes_from hex (at + 1) skip text

-- those of a key or a value, which begins at this place of the line
unfoldable pub field_bytes : Separated → Bool → Field → ℕ → List ℕ → Result (List ℕ) WrongLine
field_bytes format true field at text = bytes_from true at 0 text
field_bytes apart.Words false field at text = or_wrong (NoWord field) (bytes_of_word text)
field_bytes apart.Tsv false field at text = bytes_from false at 0 text

-- ---- keys and values

unfoldable pub key_of_bytes : List ℕ → Result (List ℕ) WrongLine
key_of_bytes bytes =
    if length bytes == 0 then Err EmptyKey
    else (if nat_le (length bytes) KEY_LIMIT then Ok bytes else Err (LongKey (length bytes)))

unfoldable pub value_of_bytes : List ℕ → Result (List ℕ) WrongLine
value_of_bytes bytes = if nat_le (length bytes) VALUE_LIMIT then Ok bytes else Err (LongValue (length bytes))

-- what stands before the first such byte, and behind it
unfoldable pub cut_at : ℕ → List ℕ → Option (List ℕ × List ℕ)
cut_at mark [] = None
cut_at mark (byte ∷ line) =
    if byte == mark then Some ([], line)
    else option_map (λ parts. (byte ∷ parts.0, parts.1)) (cut_at mark line)

-- the pair of a line whose key and value have a separating byte between them
unfoldable pub separated_pair : Separated → Bool → List ℕ → Result (List ℕ × List ℕ) WrongLine
separated_pair format hex line = do
  parts ← or_wrong NoValue (cut_at (separator format) line)
  key ← field_bytes format hex Key 1 parts.0 >>= key_of_bytes
  value ← field_bytes format hex Value (length parts.0 + 2) parts.1 >>= value_of_bytes
  Ok (key, value)

-- ---- JSON

-- the value that a line is, in UTF-8
unfoldable pub json_in : List ℕ → Option Json
json_in line = if is_utf8 line then document line else None

-- the string of a field, where there is that field
abbrev pub string_in : Field → Option Json → Result (Option (List ℕ)) WrongLine
string_in field None = Ok None
string_in field (Some found) = or_wrong (NoString field) (option_map Some (as_str found))

-- the bytes that hexadecimal digits spell
abbrev pub no_hex : Field → Result (List ℕ) WrongLine → Result (List ℕ) WrongLine
no_hex field (Ok bytes) = Ok bytes
no_hex field (Err wrong) = Err (NoHex field)

unfoldable pub hex_bytes : Field → List ℕ → Result (List ℕ) WrongLine
hex_bytes field digits = no_hex field (bytes_from true 1 0 digits)

-- The bytes of a key or a value: of the one field, or of the other, whose string has digits. So has that of the first where
-- hexadecimal digits are asked for.
abbrev pub either_bytes : Field → Bool → Option (List ℕ) → Option (List ℕ) → Result (List ℕ) WrongLine
either_bytes field hex None None = Err (NoField field)
either_bytes field hex (Some text) (Some digits) = Err (TwoFields field)
either_bytes field hex None (Some digits) = hex_bytes field digits
either_bytes field true (Some text) None = hex_bytes field text
either_bytes field false (Some text) None = Ok text

-- by the names of both fields
unfoldable pub json_bytes : Field → Bool → List ℕ → List ℕ → Json → Result (List ℕ) WrongLine
json_bytes field hex name digits_name json = do
  text ← string_in field (get name json)
  digits ← string_in field (get digits_name json)
  either_bytes field hex text digits

-- by those of the key, and those of the value
unfoldable pub named_pair : Bool → List ℕ → List ℕ → List ℕ → List ℕ → Json → Result (List ℕ × List ℕ) WrongLine
named_pair hex key_name key_digits value_name value_digits json = do
  key ← json_bytes Key hex key_name key_digits json >>= key_of_bytes
  value ← json_bytes Value hex value_name value_digits json >>= value_of_bytes
  Ok (key, value)

unfoldable pub object_pair : Bool → List ℕ → List ℕ → Json → Result (List ℕ × List ℕ) WrongLine
object_pair hex key value json = named_pair hex key (digits_of key) value (digits_of value) json

-- the pair of a line that is an object, with fields of these names
unfoldable pub json_pair : Bool → List ℕ → List ℕ → List ℕ → Result (List ℕ × List ℕ) WrongLine
json_pair hex key value line = or_wrong NoJson (json_in line) >>= object_pair hex key value

-- ---- comma-separated fields

abbrev pub or_no_record : {A : Type 0} → Result A WrongRecord → Result A WrongLine
or_no_record (Ok found) = Ok found
or_no_record (Err wrong) = Err (NoRecord wrong)

-- a record has as many fields as there are columns, and the key's and the value's are among them
abbrev pub has_columns : Columns → ℕ → Bool
has_columns columns count = (count == columns.width) && (nat_lt columns.key count && nat_lt columns.value count)

abbrev pub two_fields : Columns → List (List ℕ) → Result (List ℕ × List ℕ) WrongLine
two_fields columns fields =
    if has_columns columns (length fields) then Ok (get_or fields columns.key [], get_or fields columns.value [])
    else Err (Fields (length fields) columns.width)

-- the bytes of a field, or those that its hexadecimal digits spell
abbrev pub csv_bytes : Field → Bool → List ℕ → Result (List ℕ) WrongLine
csv_bytes field true digits = hex_bytes field digits
csv_bytes field false bytes = Ok bytes

abbrev pub two_spelled : Bool → List ℕ → List ℕ → Result (List ℕ × List ℕ) WrongLine
two_spelled hex first second = do
  key ← csv_bytes Key hex first >>= key_of_bytes
  value ← csv_bytes Value hex second >>= value_of_bytes
  Ok (key, value)

unfoldable pub fields_pair : Bool → Columns → List (List ℕ) → Result (List ℕ × List ℕ) WrongLine
fields_pair hex columns fields = two_fields columns fields >>= λ two. two_spelled hex two.0 two.1

-- the pair of a record of these columns
unfoldable pub csv_pair : Bool → Columns → List ℕ → Result (List ℕ × List ℕ) WrongLine
csv_pair hex columns line = or_no_record (fields_in line) >>= fields_pair hex columns

-- ---- lines

-- the pair of a line
abbrev pub pair_in : PairFormat → Bool → Parts → List ℕ → Result (List ℕ × List ℕ) WrongLine
pair_in Words hex parts line = separated_pair apart.Words hex line
pair_in Tsv hex parts line = separated_pair apart.Tsv hex line
pair_in Jsonl hex parts line = json_pair hex parts.key parts.value line
pair_in Csv hex parts line = csv_pair hex parts.columns line

abbrev pub pair_or_wrong : Result (List ℕ × List ℕ) WrongLine → Line
pair_or_wrong (Ok pair) = Pair pair.0 pair.1
pair_or_wrong (Err wrong) = Wrong wrong

-- the first line of an export
unfoldable pub opening_in : List ℕ → Option PairFormat
opening_in line = if bytes_eq line json_opening then Some Jsonl else option_and_then format_named (after_prefix opening_words line)

-- what stands before a brace that ends the line
abbrev pub before_end : Option (List ℕ × List ℕ) → Option (List ℕ)
before_end (Some (digits, [])) = Some digits
before_end parts = None

unfoldable pub json_end_in : List ℕ → Option ℕ
json_end_in line = option_and_then (λ text. option_and_then index_spelled (before_end (cut_at 125 text))) (after_prefix json_end_words line)

-- the last one
abbrev pub or_else : Option ℕ → Option ℕ → Option ℕ
or_else (Some count) other = Some count
or_else None other = other

unfoldable pub end_in : List ℕ → Option ℕ
end_in line = or_else (option_and_then index_spelled (after_prefix end_words line)) (json_end_in line)

abbrev pub unmarked : Option PairFormat → Option ℕ → Line → Line
unmarked (Some format) count line = Opening format
unmarked None (Some count) line = End count
unmarked None None line = line

unfoldable pub text_read : PairFormat → Bool → Parts → List ℕ → Line
text_read format hex parts [] = Empty
text_read format hex parts (byte ∷ line) = unmarked (opening_in (byte ∷ line)) (end_in (byte ∷ line)) (pair_or_wrong (pair_in format hex parts (byte ∷ line)))

-- a line that ends with a carriage return, without it
unfoldable pub without_return : List ℕ → List ℕ
without_return line = if get_or line (length line - 1) 0 == return then take (length line - 1) line else line

-- lines of comma-separated fields end with a carriage return and a newline, or with a newline alone
abbrev pub own_text : PairFormat → List ℕ → List ℕ
own_text Words line = line
own_text Tsv line = line
own_text Jsonl line = line
own_text Csv line = without_return line

abbrev pub line_read : PairFormat → Bool → Parts → List ℕ → Line
line_read format hex parts line = text_read format hex parts (own_text format line)
