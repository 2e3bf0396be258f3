-- What a run of a command about a file prints, and with which status the program then ends.
use Rattle.std.specs.Prelude.{◌≡◌, ◌⊎◌, ◌↔◌, ℕ, Bool, List, ◌++◌, Option, Result, Ok, Err, IsErrOf, IsTrue}
use Rattle.std.specs.Io.KnownBytes.{Appends}
use Rattle.exh_stream.specs.Output.{AppendsBeginning}
use Rattle.exh_format.specs.PageFile.{PageFile}
use Rattle.exh_report.specs.Check.{check_lines}
use Rattle.exh_report.specs.Dump.{dump_lines}
use Rattle.exh_report.specs.ReportLines.{Lines}
use Rattle.exh_report.specs.PairsText.{pairs_lines}
use Rattle.exh_report.specs.Report.{Reports, Tells}
use Rattle.exh_report.specs.declared.verdict.Verdict.{Verdict}
use Rattle.exh_report.specs.declared.report_fault.ReportFault.{ReportFault}
use Rattle.exh_report.specs.declared.report_fault.ReportFault.TheVariants.{Write, Memory}
use Rattle.exh_job.specs.LastLine.{memory_line}
use Rattle.exh_job.specs.ExitStatus.{file_status}
use Rattle.exh_job.specs.declared.status.Status.{Status}
use Rattle.exh_job.specs.declared.file_run.Topic.{Topic}
use Rattle.exh_job.specs.declared.file_run.Topic.TheVariants.{Size, Content, Pairs}

-- what a command tells of a legal file
abbrev pub lines_about : Topic → PageFile → Lines
lines_about Size file = check_lines file
lines_about Content file = dump_lines file
lines_about (Pairs other) file = pairs_lines other file

-- Of a writer that held `old` bytes before a run and `new` ones after it, where these are known.
module _ (old new : Option (List ℕ)) where
  -- what a run about an opened file with these bytes printed: what is told of a finding of them; after want of memory a
  -- beginning of its lines, each whole, and the last line; after a fault of the writer a beginning of one of these
  abbrev pub FileRunPrints : (PageFile → Lines) → Option (List ℕ) → Result Verdict ReportFault → Type 0
  FileRunPrints lines known (Ok verdict) = Reports lines old new known (Ok verdict)
  FileRunPrints lines known (Err Memory) = Tells (λ text. Appends old new (text ++ memory_line)) (AppendsBeginning old new) lines known (Err Memory)
  FileRunPrints lines known (Err Write) = Reports lines old new known (Err Write)
      ⊎ Tells (λ text. AppendsBeginning old new (text ++ memory_line)) (AppendsBeginning old new) lines known (Err Memory)

  -- the status is that of a run that printed so; it is cut off by the writer where that failed, and only there
  pub record EndsTelling (failed : Bool) (lines : PageFile → Lines) (known : Option (List ℕ)) (status : Status) : Type 0 where
    pub outcome : Result Verdict ReportFault
    pub printed : FileRunPrints lines known outcome
    pub cut : IsErrOf outcome Write ↔ IsTrue failed
    pub status_of_file : status ≡ file_status outcome
