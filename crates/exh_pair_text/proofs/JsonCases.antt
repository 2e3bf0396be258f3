-- Where bytes are UTF-8, and where a line is JSON.
use Rattle.std.proofs.Common.{◌≡◌, ℕ, List, [], ◌∷◌, Bool, true, false, None, Some, Err, IsUtf8, refl, sym}
use Rattle.std.specs.Prelude.{◌||◌}
use Rattle.std.specs.Str.{is_utf8}
use Rattle.std.proofs.lemmas.Str.{IsUtf8-from_is_utf8, is_utf8-from_IsUtf8}
use Rattle.json.specs.Json.{Json, document}
use Rattle.json.specs.Token.{Token}
use Rattle.hex.specs.Hex.{encode_lower}
use Rattle.exh_pair_text.specs.declared.field.Field.{Field}
use Rattle.exh_pair_text.specs.declared.wrong_line.WrongLine.TheVariants.{NoJson}
use Rattle.exh_pair_text.specs.Json.{digits_name, in_digits, name_by, plain_name, string_by}
use Rattle.exh_pair_text.specs.Reading.{json_in, json_pair, object_pair}

false_by : (b : Bool) → (b ≡ true → ⊥) → b ≡ false
false_by true never = absurd (never refl)
false_by false never = refl

pub no_utf8 : (bytes : List ℕ) → (IsUtf8 bytes → ⊥) → is_utf8 bytes ≡ false
no_utf8 bytes never = false_by (is_utf8 bytes) (λ is. never (IsUtf8-from_is_utf8 bytes is))

pub plain_where : (hex : Bool) (bytes : List ℕ) → hex ≡ false → IsUtf8 bytes → in_digits hex bytes ≡ false
plain_where hex bytes unasked utf8 = rw (unasked, is_utf8-from_IsUtf8 bytes utf8) refl

pub digits_asked : (hex : Bool) (bytes : List ℕ) → hex ≡ true → in_digits hex bytes ≡ true
digits_asked hex bytes is = rw is refl

or_true : (hex : Bool) → (hex || true) ≡ true
or_true true = refl
or_true false = refl

pub digits_needed : (hex : Bool) (bytes : List ℕ) → (IsUtf8 bytes → ⊥) → in_digits hex bytes ≡ true
digits_needed hex bytes never = rw (no_utf8 bytes never) (or_true hex)

pub json_found : (line : List ℕ) (json : Json) → IsUtf8 line → document line ≡ Some json → json_in line ≡ Some json
unfolding json_in
json_found line json utf8 is = rw (is_utf8-from_IsUtf8 line utf8) is

none_by : (utf8 : Bool) (line : List ℕ) → utf8 ≡ is_utf8 line → (IsUtf8 line → document line ≡ None) → json_in line ≡ None
unfolding json_in
none_by true line is none = rw (sym is) (none (IsUtf8-from_is_utf8 line (sym is)))
none_by false line is none = rw (sym is) refl

pub no_json : (line : List ℕ) → (IsUtf8 line → document line ≡ None) → json_in line ≡ None
no_json line none = none_by (is_utf8 line) line refl none

pub json_ok : (hex : Bool) (key value line : List ℕ) (json : Json) → IsUtf8 line → document line ≡ Some json → json_pair hex key value line ≡ object_pair hex key value json
unfolding json_pair
json_ok hex key value line json utf8 is = rw (json_found line json utf8 is) refl

pub json_refused : (hex : Bool) (key value line : List ℕ) → (IsUtf8 line → document line ≡ None) → json_pair hex key value line ≡ Err NoJson
unfolding json_pair
json_refused hex key value line none = rw (no_json line none) refl

pub plain_tokens : (hex : Bool) (field : Field) (bytes name text : List ℕ) → in_digits hex bytes ≡ false → name ≡ plain_name field → text ≡ bytes
    → Token.key name ∷ Token.string text ∷ [] ≡ Token.key (name_by (in_digits hex bytes) field) ∷ Token.string (string_by (in_digits hex bytes) bytes) ∷ []
plain_tokens hex field bytes name text plain n t = rw (plain, n, t) refl

pub digits_tokens : (hex : Bool) (field : Field) (bytes : List ℕ) → in_digits hex bytes ≡ true
    → Token.key (digits_name field) ∷ Token.string (encode_lower bytes) ∷ [] ≡ Token.key (name_by (in_digits hex bytes) field) ∷ Token.string (string_by (in_digits hex bytes) bytes) ∷ []
digits_tokens hex field bytes is = rw is refl
