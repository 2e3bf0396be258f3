-- What a writer got of what an output took, and what is told of a finding.
use Rattle.std.proofs.Common.{◌≡◌, ◌∙◌, ℕ, List, [], ◌∷◌, Option, Result, Ok, Err, IfOk, refl, sym, ap, subst}
use Rattle.std.specs.Prelude.{IsErr, IsErrAnd}
use Rattle.std.specs.Io.KnownBytes.{Appends}
use Rattle.exh_stream.specs.Output.{AppendsBeginning, Takes, TakesBeginning, WriterUntouched, held, pending}
use Rattle.exh_stream.specs.OutputLemmas.{AppendsBeginning-of_more, Takes-cut, Takes-finished, TakesBeginning-left}
use Rattle.exh_stream.specs.declared.output.Output.{Output}
use Rattle.exh_format.specs.PageFile.{PageFile}
use Rattle.exh_format.specs.declared.legal_file_fault.LegalFileFault.{LegalFileFault}
use Rattle.exh_format.specs.declared.legal_file_fault.LegalFileFault.TheVariants as faults
use Rattle.exh_versions.specs.FirstFault.{IsFirstFaultOf}
use Rattle.exh_report.specs.Finding.{Finding, IsFindingOf, refusal_words, told_lines}
use Rattle.exh_report.specs.ReportLines.{Lines, Prints, lines_text}
use Rattle.exh_report.specs.Report.{Tells}
use Rattle.exh_report.specs.declared.report_fault.ReportFault.{ReportFault}
use Rattle.exh_report.specs.declared.report_fault.ReportFault.TheVariants.{Write, Memory}
use Rattle.exh_report.specs.declared.verdict.Verdict.{Verdict}
use Rattle.exh_report.specs.declared.verdict.Verdict.TheVariants.{Refused}
use Rattle.exh_report.proofs.Told.{text-append}

module _ {W : Type 0} (contents : W → Option (List ℕ)) (old mid new : Output W) (start : pending old ≡ []) (lines : Lines) where
  -- all that waited was written
  pub finished : {T : Type 0} (result : Result T ReportFault) → Prints (Takes contents old mid) (TakesBeginning contents old mid) lines result → Appends (held contents mid) (held contents new) (pending mid)
      → (result ≡ Err Write → ⊥) → Prints (Appends (held contents old) (held contents new)) (AppendsBeginning (held contents old) (held contents new)) lines result
  finished (Ok done) told gone never = Takes-finished contents old mid new start (lines_text lines) told gone
  finished (Err Memory) told gone never = record {
    front = told.front;
    rest = told.rest;
    split = told.split;
    text = Takes-finished contents old mid new start (lines_text told.front) told.text gone;
  }
  finished (Err Write) told gone never = absurd (never refl)

  -- a beginning of it was
  pub cut : {T : Type 0} (result : Result T ReportFault) → Prints (Takes contents old mid) (TakesBeginning contents old mid) lines result → AppendsBeginning (held contents mid) (held contents new) (pending mid)
      → (result ≡ Err Write → WriterUntouched mid new) → AppendsBeginning (held contents old) (held contents new) (lines_text lines)
  cut (Ok done) told gone left = Takes-cut contents old mid new start (lines_text lines) told gone
  cut (Err Memory) told gone left =
      subst (AppendsBeginning (held contents old) (held contents new)) (sym (ap lines_text told.split ∙ text-append told.front told.rest))
      (AppendsBeginning-of_more (lines_text told.rest) (Takes-cut contents old mid new start (lines_text told.front) told.text gone))
  cut (Err Write) told gone left = TakesBeginning-left contents old mid new start (lines_text lines) told (left refl)

module _ (prints begins : List ℕ → Type 0) (lines : PageFile → Lines) (known : Option (List ℕ)) where
  -- after a fault of the writer a beginning went out
  pub cut_tells : (finding : Finding) → IsFindingOf known finding → (result : Result Verdict ReportFault) → IsErr result × IsErrAnd result (λ fault. fault ≡ Write) → begins (lines_text (told_lines lines finding))
      → Tells prints begins lines known result
  cut_tells finding found (Ok verdict) is begun = absurd (let never : IsErr {T = Verdict} {E = ReportFault} (Ok verdict) = is.0 in cc)
  cut_tells finding found (Err fault) is begun =
      subst (λ f. Tells prints begins lines known (Err f)) (sym is.1) (record { finding = finding; found = found; printed = begun; verdict = tt })

  -- a refusal that isn't want of memory is told
  pub refused_tells : (fault : LegalFileFault) → (fault ≡ faults.Memory → ⊥) → IsFirstFaultOf known fault → (result : Result Verdict ReportFault)
      → Prints prints begins (refusal_words fault ∷ []) result → IfOk result (λ verdict. verdict ≡ Refused) → Tells prints begins lines known result
  refused_tells faults.Memory other found result told verdict = absurd (other refl)
  refused_tells faults.Read other found result told verdict = record { finding = Err faults.Read; found = found; printed = told; verdict = verdict }
  refused_tells (faults.File fault) other found result told verdict = record { finding = Err (faults.File fault); found = found; printed = told; verdict = verdict }
  refused_tells (faults.Illegal reason) other found result told verdict = record { finding = Err (faults.Illegal reason); found = found; printed = told; verdict = verdict }
