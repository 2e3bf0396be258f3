-- The words that stand for bytes: those of keys and values.
use Rattle.std.specs.Prelude.{ℕ, ◌+◌, ◌-◌, ◌*◌, List, [], ◌∷◌, length, Bool, ◌&&◌, nat_le, ◌==◌, if◌then◌else◌, Option, Some, None}
use Rattle.std.specs.Int.{is_in_range}
use Rattle.std.specs.List.{list_all}
use Rattle.std.specs.Char.{is_ascii_graphic}
use Rattle.exh_page.specs.declared.key.TheConstants.{KEY_LIMIT}
use Rattle.exh_page.specs.declared.value.TheConstants.{VALUE_LIMIT}
use Rattle.exh_text.specs.Numbers.{◌>>=◌}

-- `#`
abbrev pub hash : ℕ
hash = 35

-- a hexadecimal digit, in lower case: `0` to `9`, `a` to `f`
unfoldable pub hex_digit : ℕ → Option ℕ
hex_digit byte =
    if is_in_range 48 57 byte then Some (byte - 48)
    else (if is_in_range 97 102 byte then Some (byte - 87) else None)

-- the bytes that hexadecimal digits spell, two a byte
abbrev pub hex_bytes : List ℕ → Option (List ℕ)
hex_bytes [] = Some []
hex_bytes (high ∷ []) = None
hex_bytes (high ∷ low ∷ digits) = do
  h ← hex_digit high
  l ← hex_digit low
  bytes ← hex_bytes digits
  Some ((16 * h + l) ∷ bytes)

-- the bytes that a word stands for: behind `#` those of its digits, else its own, all of them of 21 to 7e
unfoldable pub bytes_of_word : List ℕ → Option (List ℕ)
bytes_of_word [] = None
bytes_of_word (first ∷ rest) =
    if first == hash then hex_bytes rest
    else (if list_all is_ascii_graphic (first ∷ rest) then Some (first ∷ rest) else None)

abbrev pub key_in_range : List ℕ → Bool
key_in_range key = is_in_range 1 KEY_LIMIT (length key)

abbrev pub value_in_range : List ℕ → Bool
value_in_range value = nat_le (length value) VALUE_LIMIT

-- a key and a value, as two words spell them
abbrev pub spelled_pair : List ℕ → List ℕ → Option (List ℕ × List ℕ)
spelled_pair key value = bytes_of_word key >>= λ k. bytes_of_word value >>= λ v. Some (k, v)

abbrev pub pair_in_range : List ℕ × List ℕ → Bool
pair_in_range pair = key_in_range pair.0 && value_in_range pair.1
