-- How a record is written.
use Rattle.std.specs.Prelude.{◌≡◌, ℕ, ◌==◌, List, [], ◌∷◌, ◌++◌, Bool, ◌||◌, nat_eq, if◌then◌else◌, flat_map}
use Rattle.std.specs.List.{list_any, starts_with}
use Rattle.exh_pair_text.specs.Places.{comma, hash, newline, quote, return}

-- a byte that stands in quoted fields alone
abbrev pub is_special : ℕ → Bool
is_special byte = (byte == quote) || ((byte == comma) || ((byte == return) || (byte == newline)))

unfoldable pub needs_quotes : List ℕ → Bool
needs_quotes bytes = starts_with nat_eq bytes (hash ∷ []) || list_any is_special bytes

abbrev pub doubled : ℕ → List ℕ
doubled byte = if byte == quote then quote ∷ quote ∷ [] else byte ∷ []

abbrev pub quoted : List ℕ → List ℕ
quoted bytes = quote ∷ (flat_map doubled bytes ++ quote ∷ [])

unfoldable pub field_words : List ℕ → List ℕ
field_words bytes = if needs_quotes bytes then quoted bytes else bytes

-- fields, with commas between
abbrev pub row_words : List ℕ → List (List ℕ) → List ℕ
row_words field [] = field_words field
row_words field (next ∷ fields) = field_words field ++ comma ∷ row_words next fields

-- new is old with something behind it
abbrev pub Keeps : List ℕ → List ℕ → Type 0
Keeps old new = (more : List ℕ) × (new ≡ old ++ more)
