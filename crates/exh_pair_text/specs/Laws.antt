-- What holds of each pair that is written.
use Rattle.std.specs.Prelude.{◌≡◌, ◌<◌, ◌≤◌, ℕ, List, length, Bool, All}
use Rattle.exh_page.specs.declared.key.TheConstants.{KEY_LIMIT}
use Rattle.exh_page.specs.declared.value.TheConstants.{VALUE_LIMIT}
use Rattle.exh_pair_text.specs.declared.line.Line.TheVariants.{Pair}
use Rattle.exh_pair_text.specs.declared.pair_format.PairFormat.{PairFormat}
use Rattle.exh_pair_text.specs.Lines.{pair_words}
use Rattle.exh_pair_text.specs.Parts.{usual}
use Rattle.exh_pair_text.specs.Reading.{line_read}
use Rattle.exh_pair_text.specs.Records.{IsEnded, IsOneLine}

abbrev pub AreBytes : List ℕ → Type 0
AreBytes bytes = All (λ byte. byte < 256) bytes

-- a key and a value
pub record IsPair (key value : List ℕ) : Type 0 where
  pub key_bytes : AreBytes key
  pub some : 1 ≤ length key
  pub key_limit : length key ≤ KEY_LIMIT
  pub value_bytes : AreBytes value
  pub value_limit : length value ≤ VALUE_LIMIT

-- its line reads as the pair
abbrev pub PairsAreRead : Type 0
PairsAreRead = (format : PairFormat) (hex : Bool) (key value : List ℕ) → IsPair key value → line_read format hex usual (pair_words format hex key value) ≡ Pair key value

-- with a newline behind it, it is one line
abbrev pub PairsAreOneLine : Type 0
PairsAreOneLine = (format : PairFormat) (hex : Bool) (key value : List ℕ) → IsPair key value → IsOneLine format (pair_words format hex key value) × IsEnded format (pair_words format hex key value)
