-- What is found of bytes that may be a page file: the legal file that they are, or why they are none.
use Rattle.std.specs.Prelude.{◌≡◌, ℕ, List, [], ◌∷◌, ◌++◌, Option, Result, Ok, Err, decimal, codes}
use Rattle.std.specs.Option.{option_map_or}
use Rattle.exh_text.specs.Printing.{refused_text}
use Rattle.exh_format.specs.PageFile.{PageFile}
use Rattle.exh_format.specs.Reading.{AreBytes, IsAll}
use Rattle.exh_format.specs.LegalFileFault.{fault_place, fault_reason, legal_file_fault_number}
use Rattle.exh_format.specs.declared.legal_file_fault.LegalFileFault.{LegalFileFault}
use Rattle.exh_format.specs.declared.legal_file_fault.LegalFileFault.TheVariants.{Memory}
use Rattle.exh_versions.specs.FirstFault.{IsFirstFaultOf}
use Rattle.exh_versions.specs.LegalBytes.{IsLegalBytes}
use Rattle.exh_report.specs.ReportLines.{Lines}
use Rattle.exh_report.specs.declared.verdict.Verdict.{Verdict}
use Rattle.exh_report.specs.declared.verdict.Verdict.TheVariants.{Legal, Refused}

abbrev pub Finding : Type 0
Finding = Result PageFile LegalFileFault

-- it is found of bytes, which are these where they are known
abbrev pub IsFindingOf : Option (List ℕ) → Finding → Type 0
IsFindingOf known (Ok file) = (bytes : List ℕ) × IsAll known bytes × AreBytes bytes × IsLegalBytes file bytes
IsFindingOf known (Err fault) = IsFirstFaultOf known fault

-- ---- a refusal

-- the block that a fault is of, or the reason why the file isn't legal
abbrev pub place_words : Option ℕ → List ℕ
place_words place = option_map_or (λ place. codes " at " ++ decimal place) place []

abbrev pub reason_words : Option ℕ → List ℕ
reason_words reason = option_map_or (λ reason. codes " reason " ++ decimal reason) reason []

abbrev pub refusal_words : LegalFileFault → List ℕ
refusal_words fault = refused_text (legal_file_fault_number fault) ++ (place_words (fault_place fault) ++ reason_words (fault_reason fault))

-- ---- what is told of it

-- of a legal file what is told of it, else its refusal; of want of memory nothing, for then nothing is known
abbrev pub told_lines : (PageFile → Lines) → Finding → Lines
told_lines lines (Ok file) = lines file
told_lines lines (Err Memory) = []
told_lines lines (Err fault) = refusal_words fault ∷ []

-- a verdict that comes of a finding
abbrev pub IsVerdictOf : Finding → Verdict → Type 0
IsVerdictOf (Ok file) verdict = verdict ≡ Legal
IsVerdictOf (Err Memory) verdict = ⊥
IsVerdictOf (Err fault) verdict = verdict ≡ Refused
