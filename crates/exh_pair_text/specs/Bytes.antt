-- How a byte is spelled, and which byte a text begins with.
use Rattle.std.specs.Prelude.{ℕ, ◌+◌, ◌*◌, ◌==◌, List, [], ◌∷◌, ◌++◌, Bool, true, false, if◌then◌else◌, Option, Some, None, codes, flat_map}
use Rattle.std.specs.Int.{is_in_range}
use Rattle.std.specs.Option.{option_map}
use Rattle.hex.specs.Hex.{encode_lower, hex_digit_value}
use Rattle.exh_text.specs.Numbers.{◌>>=◌}
use Rattle.exh_text.specs.TextLines.{newline}
use Rattle.exh_pair_text.specs.Formats.{tab}

abbrev pub return : ℕ
return = 13

abbrev pub backslash : ℕ
backslash = 92

-- ---- writing

-- a byte of tab-separated text: four have letters, the others of 20 to 7e stand for themselves, any other is in hexadecimal
unfoldable pub byte_text : ℕ → List ℕ
byte_text byte =
    if byte == tab then codes "\\t"
    else (if byte == newline then codes "\\n"
    else (if byte == return then codes "\\r"
    else (if byte == backslash then codes "\\\\"
    else (if is_in_range 32 126 byte then byte ∷ [] else codes "\\x" ++ encode_lower (byte ∷ [])))))

-- Bytes with which a line of tab-separated text begins: a `#` is in hexadecimal, so that no beginning of the line is that of an
-- export's first or last line.
unfoldable pub leading_text : List ℕ → List ℕ
leading_text [] = []
leading_text (byte ∷ bytes) = if byte == 35 then codes "\\x23" ++ flat_map byte_text bytes else byte_text byte ++ flat_map byte_text bytes

-- ---- reading

-- the byte of two hexadecimal digits, in either case
abbrev pub two_digits : List ℕ → Option ℕ
two_digits (high ∷ low ∷ text) = do
  h ← hex_digit_value high
  l ← hex_digit_value low
  Some (16 * h + l)
two_digits text = None

-- the byte of an escape, by what stands behind its backslash, and how many bytes the escape has
unfoldable pub behind_slash : List ℕ → Option (ℕ × ℕ)
behind_slash [] = None
behind_slash (mark ∷ text) =
    if mark == 116 then Some (tab, 2)
    else (if mark == 110 then Some (newline, 2)
    else (if mark == 114 then Some (return, 2)
    else (if mark == backslash then Some (backslash, 2)
    else (if mark == 120 then option_map (λ byte. (byte, 4)) (two_digits text) else None))))

-- the byte that a text begins with, and how many bytes of the text spell it: two digits; or an escape, or the byte itself, which no tab is
unfoldable pub first_byte : Bool → List ℕ → Option (ℕ × ℕ)
first_byte true text = option_map (λ byte. (byte, 2)) (two_digits text)
first_byte false [] = None
first_byte false (byte ∷ text) =
    if byte == backslash then behind_slash text
    else (if byte == tab then None else Some (byte, 1))
