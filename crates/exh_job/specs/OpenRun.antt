-- What comes of opening a page file for a run.
use Rattle.std.specs.Prelude.{◌≡◌, ◌⊎◌, ℕ, Bool, List, [], ◌∷◌, ◌++◌, codes, Option, Result, Ok, Err}
use Rattle.exh_text.specs.Contents.{on_line}
use Rattle.exh_text.specs.Printing.{refused_text}
use Rattle.exh_report.specs.declared.FileForm.{FileForm}
use Rattle.exh_load.specs.Opened.{OpenedState}
use Rattle.exh_load.specs.Opening.{IsOpenedAs, IsOpenFaultOf}
use Rattle.exh_load.specs.declared.OpenFault.{OpenFault}
use Rattle.exh_load.specs.declared.OpenFault.TheVariants.{File, Page}
use Rattle.exh_report.specs.Finding.{refusal_words}
use Rattle.exh_job.specs.LastLine.{PrintsLine, memory_line}
use Rattle.exh_job.specs.declared.open_run.Unopened.{Unopened}
use Rattle.exh_job.specs.declared.open_run.Unopened.TheVariants.{Unread, Refused}
use Rattle.exh_job.specs.declared.status.Status.{Status}
use Rattle.exh_job.specs.declared.status.Status.TheVariants as status

-- the only line where a file can't be opened
abbrev pub unopened_line : List ℕ
unopened_line = codes "refused 41" ++ 10 ∷ []

-- the line of a refusal, which is that of `check`
abbrev pub open_refusal_line : OpenFault → List ℕ
open_refusal_line (File fault) = on_line (refusal_words fault)
open_refusal_line Page = on_line (refused_text 11)

-- of a writer that held `old` bytes before and `new` ones after, where these are known, and of whether it failed
module _ (old new : Option (List ℕ)) (failed : Bool) where
  -- of this fault, the first of the bytes, its line; or, where there was no memory for that, the last line of a program that
  -- memory ended
  pub record TellsFault (known : Option (List ℕ)) (fault : OpenFault) : Type 0 where
    pub found : IsOpenFaultOf known fault
    pub printed : PrintsLine old new failed (open_refusal_line fault) ⊎ PrintsLine old new failed memory_line

  -- the file's wards and its form, and nothing printed; or its refusal told
  abbrev pub OpensOrTells : Option (List ℕ) → Result (OpenedState × FileForm) Unopened → Type 0
  OpensOrTells known (Ok opened) = (new ≡ old) × IsOpenedAs known opened.0 opened.1
  OpensOrTells known (Err (Refused fault)) = TellsFault known fault
  OpensOrTells known (Err Unread) = ⊥

  -- the file couldn't be opened: its line, or where the writer failed a beginning of it
  abbrev pub TellsUnopened : Type 0
  TellsUnopened = PrintsLine old new failed unopened_line

  -- and why, or with which status the program ends
  abbrev pub IsUnread : Unopened → Type 0
  IsUnread cause = TellsUnopened × (cause ≡ Unread)

  abbrev pub EndsUnopened : Status → Type 0
  EndsUnopened result = TellsUnopened × (result ≡ status.Refused)
