-- The words of numbers.
use Rattle.std.specs.Prelude.{ℕ, ◌-◌, ◌^◌, List, [], ◌∷◌, length, drop, Bool, false, ◌&&◌, nat_le, nat_eq, if◌then◌else◌, Option, Some, None}
use Rattle.std.specs.Option.{option_and_then}
use Rattle.std.specs.Int.{is_in_range}
use Rattle.std.specs.List.{starts_with}
use Rattle.std.specs.Char.{is_ascii_digit}
use Rattle.std.specs.Str.{all_ascii_digits}
use Rattle.std.specs.Str.Parse.{digits_value, digits_value_after}

infixl 10 ◌>>=◌
abbrev pub ◌>>=◌ : {A B : Type 0} → Option A → (A → Option B) → Option B
option >>= f = option_and_then f option

-- `0`, or decimal digits of which the first isn't 0
abbrev pub is_numeral : List ℕ → Bool
is_numeral [] = false
is_numeral (digit ∷ []) = is_ascii_digit digit
is_numeral (digit ∷ digits) = is_in_range 49 57 digit && all_ascii_digits digits

-- the number that a word spells, where it is no greater than the greatest
unfoldable pub number_up_to : ℕ → List ℕ → Option ℕ
number_up_to greatest word = if is_numeral word && nat_le (digits_value 10 word) greatest then Some (digits_value 10 word) else None

-- a number, at most 4,294,967,295
abbrev pub number_spelled : List ℕ → Option ℕ
number_spelled = number_up_to (2 ^ 32 - 1)

-- an index, at most 18,446,744,073,709,551,615
abbrev pub index_spelled : List ℕ → Option ℕ
index_spelled = number_up_to (2 ^ 64 - 1)

-- what follows the prefix in a word that begins with it
abbrev pub after_prefix : List ℕ → List ℕ → Option (List ℕ)
after_prefix prefix word = if starts_with nat_eq word prefix then Some (drop (length prefix) word) else None

-- a number behind a prefix, as in `r7` or `cap=2`
unfoldable pub number_after : List ℕ → List ℕ → Option ℕ
number_after prefix word = after_prefix prefix word >>= number_spelled

-- the number that digits spell behind those of n, where it is no greater than the greatest
unfoldable pub digits_up_to : ℕ → ℕ → List ℕ → Option ℕ
digits_up_to greatest n digits = if all_ascii_digits digits && nat_le (digits_value_after 10 n digits) greatest then Some (digits_value_after 10 n digits) else None
