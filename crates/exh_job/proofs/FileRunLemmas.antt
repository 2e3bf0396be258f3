-- What a run about a file printed, from what was told of it and the last line.
use Rattle.std.proofs.Common.{ℕ, List, Option, Result, Ok, Err, refl, sym, subst, inr}
use Rattle.std.specs.Prelude.{◌≡◌, IsErr, IsErrAnd}
use Rattle.std.specs.Io.KnownBytes.{Appends}
use Rattle.std.proofs.KnownBytes.{Appends-trans}
use Rattle.exh_stream.specs.Output.{AppendsBeginning}
use Rattle.exh_stream.specs.OutputLemmas.{AppendsBeginning-after}
use Rattle.exh_format.specs.PageFile.{PageFile}
use Rattle.exh_report.specs.ReportLines.{Lines}
use Rattle.exh_report.specs.Report.{Reports, Tells}
use Rattle.exh_report.specs.declared.report_fault.ReportFault.{ReportFault}
use Rattle.exh_report.specs.declared.report_fault.ReportFault.TheVariants.{Memory, Write}
use Rattle.exh_report.specs.declared.verdict.Verdict.{Verdict}
use Rattle.exh_job.specs.LastLine.{memory_line}
use Rattle.exh_job.specs.FileRun.{FileRunPrints}

module _ (lines : PageFile → Lines) (known : Option (List ℕ)) where
  -- what was told before memory ran out, with more behind it
  tells_more : {prints more begins other : List ℕ → Type 0} → ((text : List ℕ) → prints text → more text)
      → Tells prints begins lines known (Err Memory) → Tells more other lines known (Err Memory)
  tells_more further h = record {
    finding = h.finding;
    found = h.found;
    printed = record { front = h.printed.front; rest = h.printed.rest; split = h.printed.split; text = further _ h.printed.text };
    verdict = h.verdict;
  }

  module _ (old mid new : Option (List ℕ)) (told : Reports lines old mid known (Err Memory)) where
    pub last_line_printed : Appends mid new memory_line → FileRunPrints old new lines known (Err Memory)
    last_line_printed line = tells_more (λ text held. Appends-trans old mid new text memory_line held line) told

    pub last_line_cut : AppendsBeginning mid new memory_line → FileRunPrints old new lines known (Err Write)
    last_line_cut line = inr (tells_more (λ text held. AppendsBeginning-after (record { front = text; gone = held; split = refl }) line) told)

  pub file_write_fault : (old new : Option (List ℕ)) (outcome : Result Verdict ReportFault) → IsErr outcome × IsErrAnd outcome (λ fault. fault ≡ Write)
      → FileRunPrints old new lines known (Err Write) → FileRunPrints old new lines known outcome
  file_write_fault old new (Ok verdict) is printed = absurd is.1
  file_write_fault old new (Err fault) is printed = subst (λ f. FileRunPrints old new lines known (Err f)) (sym is.1) printed
