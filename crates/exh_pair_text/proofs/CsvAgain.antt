-- The record of a pair reads as the pair; how it begins and ends.
use Rattle.std.proofs.Common.{◌≡◌, ◌≢◌, ℕ, suc, ◌-◌, ◌≤◌, ◌⊎◌, List, [], ◌∷◌, ◌++◌, length, get_or, Bool, true, false, cond, Ok, inl, inr, refl, sym, ap, ◌∙◌, flat_map, length-append, arith}
use Rattle.std.specs.Prelude.{nat_eq, ◌||◌}
use Rattle.std.specs.List.{list_any, starts_with}
use Rattle.std.proofs.lemmas.Bool.{ne_eqb}
use Rattle.std.proofs.lemmas.Bool.Decides.{nat_tests}
use Rattle.std.proofs.lemmas.List.Elements.{recursion_from_All}
use Rattle.hex.specs.Hex.{lower_digits}
use Rattle.hex.proofs.HexLemmas.{length-encode_with}
use Rattle.exh_pair_text.specs.CsvLaws.{FieldsAreRead}
use Rattle.exh_pair_text.specs.Rows.{doubled, field_words, is_special, needs_quotes, quoted}
use Rattle.exh_pair_text.specs.declared.field.Field.{Field}
use Rattle.exh_pair_text.specs.declared.field.Field.TheVariants.{Key, Value}
use Rattle.exh_pair_text.specs.Lines.{csv_words}
use Rattle.exh_pair_text.specs.Parts.{two_columns}
use Rattle.exh_pair_text.specs.Json.{string_by}
use Rattle.exh_pair_text.specs.Laws.{AreBytes, IsPair}
use Rattle.exh_pair_text.specs.Reading.{csv_bytes, csv_pair, fields_pair, without_return}
use Rattle.exh_pair_text.proofs.Cases.{key_kept, value_kept}
use Rattle.exh_pair_text.proofs.JsonAgain.{digits_again}

-- ---- the pair

field_again : (hex : Bool) (field : Field) (bytes : List ℕ) → AreBytes bytes → csv_bytes field hex (string_by hex bytes) ≡ Ok bytes
field_again true field bytes all = digits_again field bytes (recursion_from_All _ bytes all)
field_again false field bytes all = refl

two_again : (hex : Bool) (key value : List ℕ) → IsPair key value → fields_pair hex two_columns (string_by hex key ∷ string_by hex value ∷ []) ≡ Ok (key, value)
unfolding fields_pair
two_again hex key value pair = rw (field_again hex Key key pair.key_bytes, key_kept key pair.some pair.key_limit, field_again hex Value value pair.value_bytes, value_kept value pair.value_limit) refl

pub csv_again : FieldsAreRead → (hex : Bool) (key value : List ℕ) → IsPair key value → csv_pair hex two_columns (csv_words hex key value) ≡ Ok (key, value)
unfolding csv_pair
csv_again law hex key value pair = rw (law (string_by hex key) (string_by hex value ∷ [])) (two_again hex key value pair)

-- ---- how it begins

-- with a quote; or with another byte than `#`, and no quote behind it
abbrev pub Begins : List ℕ → Type 0
Begins line = ((rest : List ℕ) × (line ≡ 34 ∷ rest)) ⊎ ((get_or line 0 0 ≢ 35) × (get_or line 1 0 ≢ 34))

none_special : (hash special : Bool) → (hash || special) ≡ false → (hash ≡ false) × (special ≡ false)
none_special true special none = cc
none_special false special none = (refl, none)

own_begins : (field rest : List ℕ) → 1 ≤ length field → starts_with nat_eq field (35 ∷ []) ≡ false → list_any is_special field ≡ false → Begins (field ++ 44 ∷ rest)
own_begins [] rest some hash none = absurd (omega arith)
own_begins (byte ∷ []) rest some hash none = inr (λ is. grind (arith, nat_tests), λ is. omega arith)
own_begins (byte ∷ next ∷ field) rest some hash none = inr (λ is. grind (arith, nat_tests), λ is. grind (arith, nat_tests))

begins_by : (needs : Bool) (field rest : List ℕ) → 1 ≤ length field → needs ≡ needs_quotes field → Begins (cond needs (quoted field) field ++ 44 ∷ rest)
unfolding needs_quotes
begins_by true field rest some is = inl (_, refl)
begins_by false field rest some is =
    let parts = none_special (starts_with nat_eq field (35 ∷ [])) (list_any is_special field) (sym is) in
    own_begins field rest some parts.0 parts.1

field_begins : (field rest : List ℕ) → 1 ≤ length field → Begins (field_words field ++ 44 ∷ rest)
unfolding field_words
field_begins field rest some = begins_by (needs_quotes field) field rest some refl

pub string_some : (hex : Bool) (key : List ℕ) → 1 ≤ length key → 1 ≤ length (string_by hex key)
string_some true key some = omega (arith, length-encode_with lower_digits key)
string_some false key some = some

pub csv_begins : (hex : Bool) (key value : List ℕ) → 1 ≤ length (string_by hex key) → Begins (csv_words hex key value)
csv_begins hex key value some = field_begins (string_by hex key) (field_words (string_by hex value)) some

pub csv_some : (hex : Bool) (key value : List ℕ) → 1 ≤ length (string_by hex key) → csv_words hex key value ≢ []
csv_some hex key value some is = omega (arith, ap length is, length-append (field_words (string_by hex key)) (44 ∷ field_words (string_by hex value)))

-- ---- how it ends

abbrev last_of : List ℕ → ℕ
last_of [] = 0
last_of (byte ∷ []) = byte
last_of (byte ∷ next ∷ text) = last_of (next ∷ text)

last_is : (text : List ℕ) → get_or text (length text - 1) 0 ≡ last_of text
last_is [] = refl
last_is (byte ∷ []) = refl
last_is (byte ∷ next ∷ text) =
    let less : length (byte ∷ next ∷ text) - 1 ≡ suc (length (next ∷ text) - 1) = omega arith in
    rw less (last_is (next ∷ text))

last_behind : (front : List ℕ) (byte : ℕ) (text : List ℕ) → last_of (front ++ byte ∷ text) ≡ last_of (byte ∷ text)
last_behind [] byte text = refl
last_behind (first ∷ []) byte text = refl
last_behind (first ∷ next ∷ front) byte text = last_behind (next ∷ front) byte text

own_ends : (field : List ℕ) → list_any is_special field ≡ false → last_of field ≢ 13
own_ends [] none is = omega arith
own_ends (byte ∷ []) none is = grind (arith, nat_tests)
own_ends (byte ∷ next ∷ field) none is = own_ends (next ∷ field) (grind (arith, nat_tests)) is

quoted_ends : (field : List ℕ) → last_of (quoted field) ≡ 34
quoted_ends field = last_behind (34 ∷ flat_map doubled field) 34 []

comma_ends : (field : List ℕ) → last_of field ≢ 13 → last_of (44 ∷ field) ≢ 13
comma_ends [] other is = omega arith
comma_ends (byte ∷ field) other is = other is

ends_by : (needs : Bool) (field : List ℕ) → needs ≡ needs_quotes field → last_of (cond needs (quoted field) field) ≢ 13
unfolding needs_quotes
ends_by true field is return = omega (arith, quoted_ends field, return)
ends_by false field is return = own_ends field (none_special (starts_with nat_eq field (35 ∷ [])) (list_any is_special field) (sym is)).1 return

field_ends : (field : List ℕ) → last_of (field_words field) ≢ 13
unfolding field_words
field_ends field = ends_by (needs_quotes field) field refl

kept : (line : List ℕ) → last_of line ≢ 13 → without_return line ≡ line
unfolding without_return
kept line other = rw (ne_eqb (get_or line (length line - 1) 0) 13 (λ is. other (sym (last_is line) ∙ is))) refl

pub csv_kept : (hex : Bool) (key value : List ℕ) → without_return (csv_words hex key value) ≡ csv_words hex key value
csv_kept hex key value =
    let front = field_words (string_by hex key) in
    let field = field_words (string_by hex value) in
    kept (csv_words hex key value) (λ is. comma_ends field (field_ends (string_by hex value)) (sym (last_behind front 44 field) ∙ is))
