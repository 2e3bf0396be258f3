-- The key and the value that a word is.
use Rattle.std.specs.Prelude.{ℕ, Bool, true, false, List, [], ◌∷◌, length, nat_le, Result, Ok, Err, if◌then◌else◌}
use Rattle.hex.specs.Hex.{decode_of}
use Rattle.hex.specs.declared.error.FromHexError.{FromHexError}
use Rattle.exh_page.specs.declared.key.TheConstants.{KEY_LIMIT}
use Rattle.exh_page.specs.declared.value.TheConstants.{VALUE_LIMIT}
use Rattle.exh_request.specs.declared.place.Place.{Place}
use Rattle.exh_request.specs.declared.place.Place.TheVariants as at
use Rattle.exh_request.specs.declared.wrong_request.WrongCause.{WrongCause}
use Rattle.exh_request.specs.declared.wrong_request.WrongCause.TheVariants.{KeyEmpty, KeyTooLong, NotHex, ValueTooLong}
use Rattle.exh_request.specs.Causes.{◌>>=◌}

-- the bytes that hexadecimal digits spell, two a byte, of either case
abbrev pub digits_read : Place → Result (List ℕ) FromHexError → Result (List ℕ) WrongCause
digits_read place (Ok bytes) = Ok bytes
digits_read place (Err error) = Err (NotHex place)

-- the bytes of a word are its own, or with `--hex` those that its digits spell
abbrev pub bytes_asked : Place → Bool → List ℕ → Result (List ℕ) WrongCause
bytes_asked place false word = Ok word
bytes_asked place true word = digits_read place (decode_of word)

-- a key has 1 to 64 bytes
abbrev pub key_ranged : List ℕ → Result (List ℕ) WrongCause
key_ranged [] = Err KeyEmpty
key_ranged (first ∷ rest) = if nat_le (length (first ∷ rest)) KEY_LIMIT then Ok (first ∷ rest) else Err (KeyTooLong (length (first ∷ rest)))

abbrev pub key_asked : Bool → List ℕ → Result (List ℕ) WrongCause
key_asked is_hex word = bytes_asked at.Key is_hex word >>= key_ranged

-- a value has 0 to 128 bytes
abbrev pub value_ranged : Place → List ℕ → Result (List ℕ) WrongCause
value_ranged place bytes = if nat_le (length bytes) VALUE_LIMIT then Ok bytes else Err (ValueTooLong place (length bytes))

abbrev pub value_asked : Place → Bool → List ℕ → Result (List ℕ) WrongCause
value_asked place is_hex word = bytes_asked place is_hex word >>= value_ranged place
