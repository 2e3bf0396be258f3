-- Why an import ends before its text's end.
use Rattle.std.specs.Prelude.{◌≡◌, ◌≢◌, ◌⊎◌, ◌+◌, ◌-◌, ◌^◌, ◌<◌, ⊤, ℕ, List, ◌∷◌, [], ◌++◌, flat_map, length, min, Option, Some, IfSome, IsTrue, true}
use Rattle.std.specs.List.{AllByRecursion}
use Rattle.std.specs.Io.KnownBytes.{IsAtEnd}
use Rattle.exh_stream.specs.Source.{reader_failed}
use Rattle.exh_text.specs.TextLines.{newline}
use Rattle.exh_pair_text.specs.Records.{IsEnded, IsOneLine}
use Rattle.exh_pair_text.specs.declared.pair_format.PairFormat.{PairFormat}
use Rattle.exh_import.specs.declared.import_fault.ImportFault.{ImportFault}
use Rattle.exh_import.specs.declared.import_fault.ImportFault.TheVariants.{Endless, Header, LongLine, Memory, OtherFormat, Read, Refused}
use Rattle.exh_import.specs.declared.line_reader.LineReader.{LineReader}
use Rattle.exh_import.specs.declared.line_reader.TheConstants.{LINE_LIMIT}
use Rattle.exh_import.specs.declared.options.ImportOptions.{ImportOptions}
use Rattle.exh_import.specs.declared.taking.Taking.{Taking}
use Rattle.exh_import.specs.Counting.{first_opening, lines_begun, more}
use Rattle.exh_import.specs.LineReader.{AreTaken, IsLineTaken, text_left}
use Rattle.exh_import.specs.Pairs.{read_of}

-- ---- texts

abbrev pub whole_line : List ℕ → List ℕ
whole_line line = line ++ newline ∷ []

abbrev pub whole_lines : List (List ℕ) → List ℕ
whole_lines lines = flat_map whole_line lines

abbrev pub IsWholeLine : PairFormat → List ℕ → Type 0
IsWholeLine format line = IsOneLine format line × IsEnded format line

abbrev pub AreWholeLines : PairFormat → List (List ℕ) → Type 0
AreWholeLines format lines = AllByRecursion (IsWholeLine format) lines

-- more bytes than a line has, of which no newline ends it
pub record IsLong (format : PairFormat) (bytes : List ℕ) : Type 0 where
  pub one : IsOneLine format bytes
  pub more_bytes : LINE_LIMIT < length bytes

-- the line of this number, at most 2^64 - 1, is too long, where so many were taken before
pub record HasLongLine (format : PairFormat) (begun number : ℕ) (text : List ℕ) : Type 0 where
  pub front : List (List ℕ)
  pub lines : AreWholeLines format front
  pub number_is : number ≡ min (begun + length front + 1) (2 ^ 64 - 1)
  pub long : List ℕ
  pub rest : List ℕ
  pub is_long : IsLong format long
  pub text_is : text ≡ (whole_lines front ++ long) ++ rest

-- so many lines stand there, and more may
pub record HasLines (format : PairFormat) (count : ℕ) (text : List ℕ) : Type 0 where
  pub front : List (List ℕ)
  pub lines : AreWholeLines format front
  pub count_is : length front ≡ count
  pub rest : List ℕ
  pub text_is : text ≡ whole_lines front ++ rest

-- the first line opens an export of this format
pub record OpensWith (options : ImportOptions) (format : PairFormat) (text : List ℕ) : Type 0 where
  pub line : List ℕ
  pub one : IsOneLine options.format line
  pub opening : first_opening true (read_of options line) ≡ Some format
  pub rest : List ℕ
  pub text_is : (IsEnded options.format line × (text ≡ whole_line line ++ rest)) ⊎ (text ≡ line)

-- ---- a store

-- the last call was refused, which left the store so
abbrev pub IsRefused : {S : Type 0} → (S → S → Type 0) → S → Type 0
IsRefused {S} refused store = (before : S) × refused before store

-- ---- an import

-- of a text that is known or not, by a reader that failed or not, into a store that is so then
abbrev pub IsCause : {R S : Type 0} → (S → S → Type 0) → ImportOptions → Option (List ℕ) → LineReader R → S → ImportFault → Type 0
IsCause refused options known lines store Memory = ⊤
IsCause refused options known lines store Read = IsTrue (reader_failed lines.source)
IsCause refused options known lines store Refused = IsRefused refused store
IsCause refused options known lines store (LongLine number) = IfSome known (HasLongLine options.format (lines_begun options.begun) number)
IsCause refused options known lines store (OtherFormat found) = (found ≢ options.format) × IfSome known (OpensWith options found)
IsCause refused options known lines store (Header wrong) = ⊥
IsCause refused options known lines store Endless = IfSome known (HasLines options.format (2 ^ 64 - 1))

-- ---- of private functions

-- of a line that is read
abbrev pub IsLineCause : {R : Type 0} → PairFormat → (R → Option (List ℕ)) → ℕ → LineReader R → LineReader R → ImportFault → Type 0
IsLineCause format remaining number old new Memory = ⊤
IsLineCause format remaining number old new Read = IsTrue (reader_failed new.source)
IsLineCause format remaining number old new (LongLine told) = (told ≡ number) × (IsLong format new.line.items × AreTaken remaining old new new.line.items)
IsLineCause format remaining number old new fault = ⊥

-- of a block that is read
abbrev pub IsReadCause : {R : Type 0} → LineReader R → ImportFault → Type 0
IsReadCause lines Memory = ⊤
IsReadCause lines Read = IsTrue (reader_failed lines.source)
IsReadCause lines fault = ⊥

-- of a line that is taken
abbrev pub IsTakeCause : {S : Type 0} → (S → S → Type 0) → Taking → List ℕ → S → ImportFault → Type 0
IsTakeCause refused taking line store Memory = ⊤
IsTakeCause refused taking line store Refused = IsRefused refused store
IsTakeCause refused taking line store (OtherFormat found) =
    (found ≢ taking.options.format) × ((taking.imported.lines ≡ 0) × (first_opening true (read_of taking.options line) ≡ Some found))
IsTakeCause refused taking line store fault = ⊥

-- of a put, a commit or a rest
abbrev pub IsStoreCause : {S : Type 0} → (S → S → Type 0) → S → ImportFault → Type 0
IsStoreCause refused store Refused = IsRefused refused store
IsStoreCause refused store fault = ⊥

-- a line was read, and then taken
pub record IsReadAndTaken {R S : Type 0} (format : PairFormat) (remaining : R → Option (List ℕ)) (refused : S → S → Type 0) (old new : LineReader R) (taking : Taking) (store : S) (fault : ImportFault) : Type 0 where
  pub line : List ℕ
  pub one : IsOneLine format line
  pub given : IsLineTaken format remaining old new line ⊎ (AreTaken remaining old new line × IsAtEnd (text_left remaining new))
  pub cause : IsTakeCause refused taking line store fault

-- of a line that is read and taken
abbrev pub IsNextCause : {R S : Type 0} → PairFormat → (R → Option (List ℕ)) → (S → S → Type 0) → LineReader R → LineReader R → Taking → S → ImportFault → Type 0
IsNextCause format remaining refused old new taking store fault =
    IsLineCause format remaining (more taking.imported.lines) old new fault ⊎ IsReadAndTaken format remaining refused old new taking store fault
