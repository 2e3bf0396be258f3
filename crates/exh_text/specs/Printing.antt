-- How values, keys, prefixes, places and refusals are printed. A number is printed in decimal digits.
use Rattle.std.specs.Prelude.{◌≡◌, ℕ, List, [], ◌∷◌, ◌++◌, Bool, false, not, ◌&&◌, ◌==◌, if◌then◌else◌, decimal, codes}
use Rattle.std.specs.Char.{is_ascii_graphic}
use Rattle.std.specs.List.{list_all}
use Rattle.hex.specs.Hex.{encode_lower}
use Rattle.exh_text.specs.ByteWord.{hash}

-- whether bytes are printed as they are: there are some, all of 21 to 7e, and the first isn't `#`
abbrev pub is_plain : List ℕ → Bool
is_plain [] = false
is_plain (first ∷ rest) = not (first == hash) && list_all is_ascii_graphic (first ∷ rest)

-- how the bytes of a value or of a key are printed: as they are, or behind `#` in two lower-case hexadecimal digits each
unfoldable pub printed : List ℕ → List ℕ
printed bytes = if is_plain bytes then bytes else hash ∷ encode_lower bytes

-- a ward and the number of a page or of a notice of it
abbrev pub place_text : ℕ → ℕ → List ℕ
place_text ward number = decimal ward ++ (codes "/" ++ decimal number)

abbrev pub refused_text : ℕ → List ℕ
refused_text number = codes "refused " ++ decimal number

-- What is left where memory runs out while a text is added: new is old with a beginning of the text behind it.
pub record AppendsFrontOf (text old new : List ℕ) : Type 0 where
  pub front : List ℕ
  pub rest : List ℕ
  pub appended : new ≡ old ++ front
  pub begins : text ≡ front ++ rest

-- What was there stands in front of whatever was added, be it all of a text or a beginning of it.
pub record Keeps (old new : List ℕ) : Type 0 where
  pub added : List ℕ
  pub is : new ≡ old ++ added
