-- A pair as a JSON object, as it is written.
use Rattle.std.specs.Prelude.{ℕ, List, Bool, true, false, not, ◌||◌, codes}
use Rattle.std.specs.Str.{is_utf8}
use Rattle.hex.specs.Hex.{encode_lower}
use Rattle.json.specs.Json.{Json, Members, member, no_members, object, string}
use Rattle.json.specs.Print.{print}
use Rattle.json.specs.Tree.{json_tokens}
use Rattle.exh_pair_text.specs.declared.field.Field.{Field}
use Rattle.exh_pair_text.specs.declared.field.Field.TheVariants.{Key, Value}

-- the field of bytes in UTF-8
abbrev pub plain_name : Field → List ℕ
plain_name Key = codes "key"
plain_name Value = codes "value"

-- the field of any bytes, in hexadecimal digits
abbrev pub digits_name : Field → List ℕ
digits_name Key = codes "key_hex"
digits_name Value = codes "value_hex"

-- bytes that aren't UTF-8 are written in digits, and others where they are asked for
abbrev pub in_digits : Bool → List ℕ → Bool
in_digits hex bytes = hex || not (is_utf8 bytes)

abbrev pub name_by : Bool → Field → List ℕ
name_by true field = digits_name field
name_by false field = plain_name field

abbrev pub string_by : Bool → List ℕ → List ℕ
string_by true bytes = encode_lower bytes
string_by false bytes = bytes

-- a field in front of others
abbrev pub field_member : Field → Bool → List ℕ → Members → Members
field_member field hex bytes more = member (name_by (in_digits hex bytes) field) (string (string_by (in_digits hex bytes) bytes)) more

abbrev pub pair_object : Bool → List ℕ → List ℕ → Json
pair_object hex key value = object (field_member Key hex key (field_member Value hex value no_members))

-- without spaces, and with the fewest escapes
abbrev pub json_words : Bool → List ℕ → List ℕ → List ℕ
json_words hex key value = print (json_tokens (pair_object hex key value))
