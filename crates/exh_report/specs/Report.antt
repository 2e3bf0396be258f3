-- What a command prints of the bytes that its reader has left.
use Rattle.std.specs.Prelude.{ℕ, List, Option, Result, IfOk}
use Rattle.std.specs.Io.KnownBytes.{Appends}
use Rattle.exh_stream.specs.Output.{AppendsBeginning}
use Rattle.exh_format.specs.PageFile.{PageFile}
use Rattle.exh_report.specs.Check.{check_lines}
use Rattle.exh_report.specs.Dump.{dump_lines}
use Rattle.exh_report.specs.Finding.{Finding, IsFindingOf, IsVerdictOf, told_lines}
use Rattle.exh_report.specs.ReportLines.{Lines, Prints}
use Rattle.exh_report.specs.PairsText.{pairs_lines}
use Rattle.exh_report.specs.declared.report.Topic.{Topic}
use Rattle.exh_report.specs.declared.report.Topic.TheVariants.{Content, Pairs, Size}
use Rattle.exh_report.specs.declared.verdict.Verdict.{Verdict}
use Rattle.exh_report.specs.declared.report_fault.ReportFault.{ReportFault}

-- what is told of a legal file
abbrev pub topic_lines : Topic → PageFile → Lines
topic_lines Size file = check_lines file
topic_lines Content file = dump_lines file
topic_lines (Pairs other) file = pairs_lines other file

-- `prints` and `begins` say how bytes go out, all and a beginning of them. Of a finding of the reader's bytes the lines go
-- out, and the verdict is its.
pub record Tells (prints : List ℕ → Type 0) (begins : List ℕ → Type 0) (lines : PageFile → Lines) (known : Option (List ℕ)) (result : Result Verdict ReportFault) : Type 0 where
  pub finding : Finding
  pub found : IsFindingOf known finding
  pub printed : Prints prints begins (told_lines lines finding) result
  pub verdict : IfOk result (IsVerdictOf finding)

-- of a writer that held `old` bytes before and `new` ones afterwards, where these are known
abbrev pub Reports : (PageFile → Lines) → Option (List ℕ) → Option (List ℕ) → Option (List ℕ) → Result Verdict ReportFault → Type 0
Reports lines old new known result = Tells (Appends old new) (AppendsBeginning old new) lines known result
