-- What stands before the pairs of a text of comma-separated fields: a header, behind an opening or not, and its columns.
use Rattle.std.specs.Prelude.{◌≡◌, ◌≢◌, ◌⊎◌, ⊤, ℕ, Bool, true, false, List, [], ◌∷◌, ◌++◌, length, Option, Some, None, IfSome, IsTrue, Ok, Err, ◌+◌}
use Rattle.std.specs.Io.KnownBytes.{Consumes, IsAtEnd}
use Rattle.exh_stream.specs.Source.{reader_failed}
use Rattle.exh_pair_text.specs.declared.pair_format.PairFormat.{PairFormat}
use Rattle.exh_pair_text.specs.declared.pair_format.PairFormat.TheVariants.{Csv}
use Rattle.exh_pair_text.specs.declared.wrong_header.WrongHeader.{WrongHeader}
use Rattle.exh_pair_text.specs.Header.{columns_in}
use Rattle.exh_pair_text.specs.Parts.{two_columns, usual}
use Rattle.exh_pair_text.specs.Reading.{line_read}
use Rattle.exh_import.specs.declared.heading.Heading.{Heading}
use Rattle.exh_import.specs.declared.import_fault.ImportFault.{ImportFault}
use Rattle.exh_import.specs.declared.import_fault.ImportFault.TheVariants.{Header, LongLine, Memory, OtherFormat, Read}
use Rattle.exh_import.specs.declared.line_reader.LineReader.{LineReader}
use Rattle.exh_import.specs.Causes.{IsLong}
use Rattle.exh_import.specs.Counting.{first_opening}
use Rattle.exh_import.specs.Imports.{IsTextOf}

-- no header: a text has no pairs, and perhaps an opening
abbrev pub bare : Bool → Heading
bare opened = record { begun = record { is_opened = opened; has_header = false }; columns = two_columns }

-- the format that a line opens with, if it does
abbrev pub opens : List ℕ → Option PairFormat
opens line = first_opening true (line_read Csv false usual line)

-- a line is the header, behind an opening or not
pub record Heads (names : Option (List ℕ × List ℕ)) (opened : Bool) (line : List ℕ) (heading : Heading) : Type 0 where
  pub begun : heading.begun ≡ record { is_opened = opened; has_header = true }
  pub columns_are : columns_in names line ≡ Ok heading.columns

-- The lines before the pairs, of a text of which this is left then: none, where it is empty; the header; an opening alone, where
-- nothing stands behind it; or both.
abbrev pub IsHeaded : Option (List ℕ × List ℕ) → Option (List ℕ) → List (List ℕ) → Heading → Type 0
IsHeaded names left [] heading = (heading ≡ bare false) × IsAtEnd left
IsHeaded names left (line ∷ []) heading =
    ((opens line ≡ None) × Heads names false line heading) ⊎ ((opens line ≡ Some Csv) × ((heading ≡ bare true) × IsAtEnd left))
IsHeaded names left (line ∷ header ∷ []) heading = (opens line ≡ Some Csv) × Heads names true header heading
IsHeaded names left (line ∷ header ∷ next ∷ more) heading = ⊥

-- lines stand before what is left of a text, whatever lines that is
abbrev pub StandBefore : List (List ℕ) → Option (List ℕ) → Option (List ℕ) → Type 0
StandBefore front known left = (lines : List (List ℕ)) → IfSome left (IsTextOf Csv lines) → IfSome known (IsTextOf Csv (front ++ lines))

-- ---- why there is no heading

-- the line before the header, where there is one, is an opening
abbrev pub AreBefore : List (List ℕ) → List ℕ → Type 0
AreBefore [] header = opens header ≡ None
AreBefore (line ∷ []) header = opens line ≡ Some Csv
AreBefore (line ∷ next ∷ more) header = ⊥

pub record HasOpening (found : PairFormat) (known left : Option (List ℕ)) : Type 0 where
  pub line : List ℕ
  pub opening : opens line ≡ Some found
  pub stands : StandBefore (line ∷ []) known left

pub record HasHeader (names : Option (List ℕ × List ℕ)) (wrong : WrongHeader) (known left : Option (List ℕ)) : Type 0 where
  pub front : List (List ℕ)
  pub header : List ℕ
  pub before : AreBefore front header
  pub columns_are : columns_in names header ≡ Err wrong
  pub stands : StandBefore (front ++ header ∷ []) known left

-- behind lines of the text stands one that is too long
pub record HasLongHeader (number : ℕ) (known left : Option (List ℕ)) : Type 0 where
  pub front : List (List ℕ)
  pub number_is : number ≡ length front + 1
  pub middle : Option (List ℕ)
  pub stands : StandBefore front known middle
  pub long : List ℕ
  pub is_long : IsLong Csv long
  pub given : Consumes middle left long

abbrev pub IsHeadingCause : {R : Type 0} → Option (List ℕ × List ℕ) → Option (List ℕ) → Option (List ℕ) → LineReader R → ImportFault → Type 0
IsHeadingCause names known left lines Memory = ⊤
IsHeadingCause names known left lines Read = IsTrue (reader_failed lines.source)
IsHeadingCause names known left lines (LongLine number) = HasLongHeader number known left
IsHeadingCause names known left lines (OtherFormat found) = (found ≢ Csv) × HasOpening found known left
IsHeadingCause names known left lines (Header wrong) = HasHeader names wrong known left
IsHeadingCause names known left lines fault = ⊥

-- ---- of private functions

abbrev pub IsOpening : List ℕ → Bool → Type 0
IsOpening line true = opens line ≡ Some Csv
IsOpening line false = opens line ≡ None

abbrev pub IsOpeningCause : List ℕ → ImportFault → Type 0
IsOpeningCause line Memory = ⊤
IsOpeningCause line (OtherFormat found) = (found ≢ Csv) × (opens line ≡ Some found)
IsOpeningCause line fault = ⊥

abbrev pub IsHeadCause : Option (List ℕ × List ℕ) → List ℕ → ImportFault → Type 0
IsHeadCause names line Memory = ⊤
IsHeadCause names line (Header wrong) = columns_in names line ≡ Err wrong
IsHeadCause names line fault = ⊥

-- of a line that is read, if there is one
abbrev pub IsLineRead : List ℕ → Option (List ℕ) → Option (List ℕ) → Bool → Type 0
IsLineRead line known left true = StandBefore (line ∷ []) known left
IsLineRead line known left false = IsAtEnd left × StandBefore [] known left

abbrev pub IsLongCause : {R : Type 0} → ℕ → Option (List ℕ) → Option (List ℕ) → LineReader R → ImportFault → Type 0
IsLongCause number known left lines Memory = ⊤
IsLongCause number known left lines Read = IsTrue (reader_failed lines.source)
IsLongCause number known left lines (LongLine told) = (told ≡ number) × ((long : List ℕ) × (IsLong Csv long × Consumes known left long))
IsLongCause number known left lines fault = ⊥

-- behind an opening: the header, where the text goes on
abbrev pub IsBehind : Option (List ℕ × List ℕ) → Option (List ℕ) → List (List ℕ) → Heading → Type 0
IsBehind names left [] heading = (heading ≡ bare true) × IsAtEnd left
IsBehind names left (header ∷ []) heading = Heads names true header heading
IsBehind names left (header ∷ next ∷ more) heading = ⊥

-- why there is none there
abbrev pub IsBehindCause : {R : Type 0} → Option (List ℕ × List ℕ) → Option (List ℕ) → Option (List ℕ) → LineReader R → ImportFault → Type 0
IsBehindCause names known left lines Memory = ⊤
IsBehindCause names known left lines Read = IsTrue (reader_failed lines.source)
IsBehindCause names known left lines (LongLine told) = (told ≡ 2) × ((long : List ℕ) × (IsLong Csv long × Consumes known left long))
IsBehindCause names known left lines (Header wrong) = (line : List ℕ) × ((columns_in names line ≡ Err wrong) × StandBefore (line ∷ []) known left)
IsBehindCause names known left lines fault = ⊥
