-- A text as its lines, and lines that go to an output.
use Rattle.std.specs.Prelude.{◌≡◌, ℕ, List, ◌++◌, flat_map, Option, Result, Ok, Err}
use Rattle.exh_stream.specs.Output.{Takes, TakesBeginning}
use Rattle.exh_stream.specs.declared.output.Output.{Output}
use Rattle.exh_text.specs.Contents.{on_line}
use Rattle.exh_report.specs.declared.report_fault.ReportFault.{ReportFault}
use Rattle.exh_report.specs.declared.report_fault.ReportFault.TheVariants.{Write, Memory}

abbrev pub Lines : Type 0
Lines = List (List ℕ)

-- the lines one after the other, each ended by a newline
abbrev pub lines_text : Lines → List ℕ
lines_text lines = flat_map on_line lines

-- `prints bytes` says how bytes go out. Of these lines a beginning goes out, each of them whole.
pub record PrintsFront (prints : List ℕ → Type 0) (lines : Lines) : Type 0 where
  pub front : Lines
  pub rest : Lines
  pub split : lines ≡ front ++ rest
  pub text : prints (lines_text front)

-- What goes out of lines by what came of it: all of them, after want of memory a beginning of them, each whole, after a
-- fault of the writer a beginning of their text.
abbrev pub Prints : (List ℕ → Type 0) → (List ℕ → Type 0) → Lines → {T : Type 0} → Result T ReportFault → Type 0
Prints prints begins lines (Ok done) = prints (lines_text lines)
Prints prints begins lines (Err Memory) = PrintsFront prints lines
Prints prints begins lines (Err Write) = begins (lines_text lines)

-- an output takes lines
abbrev pub TakesLines : {W : Type 0} → (W → Option (List ℕ)) → Output W → Output W → Lines → {T : Type 0} → Result T ReportFault → Type 0
TakesLines contents old new lines result = Prints (Takes contents old new) (TakesBeginning contents old new) lines result
