-- Where the text of a pair ends: at a newline, or, of comma-separated fields, at one that stands in no quotes.
use Rattle.std.specs.Prelude.{◌≢◌, ℕ, List}
use Rattle.exh_pair_text.specs.declared.place.Place.{Place}
use Rattle.exh_pair_text.specs.declared.place.Place.TheVariants.{Start, Quoted}
use Rattle.exh_pair_text.specs.Places.{AreQuoted, place_after, place_behind}
use Rattle.exh_pair_text.specs.declared.pair_format.PairFormat.{PairFormat}
use Rattle.exh_pair_text.specs.declared.pair_format.PairFormat.TheVariants.{Words, Tsv, Jsonl, Csv}

-- the place behind a byte: other formats have no quoted fields
abbrev pub place_by : PairFormat → Place → ℕ → Place
place_by Words = λ place byte. Start
place_by Tsv = λ place byte. Start
place_by Jsonl = λ place byte. Start
place_by Csv = place_after

-- no newline ends a line before its end
abbrev pub IsOneLine : PairFormat → List ℕ → Type 0
IsOneLine format line = AreQuoted (place_by format) Start line

-- a newline behind it ends it
abbrev pub IsEnded : PairFormat → List ℕ → Type 0
IsEnded format line = place_behind (place_by format) Start line ≢ Quoted
