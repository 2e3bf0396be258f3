-- What a run of a script prints, and how the program then ends.
use Rattle.std.specs.Prelude.{◌≡◌, ◌⊎◌, ℕ, List, ◌++◌, Option, None, Some, Result, Ok, Err}
use Rattle.std.specs.Io.KnownBytes.{Appends}
use Rattle.exh_stream.specs.Output.{AppendsBeginning}
use Rattle.exh_everyday.specs.Opened.{OpenedState}
use Rattle.exh_script.specs.Text.{Beginning}
use Rattle.exh_script.specs.Served.{PrintsLines, PrintsText, PrintsUnread, PrintsWhole, unread_text}
use Rattle.exh_script.specs.declared.serve_fault.ServeFault.{ServeFault}
use Rattle.exh_script.specs.declared.serve_fault.ServeFault.TheVariants.{Write, Memory, Page}
use Rattle.exh_everyday.specs.LastLine.{memory_line}
use Rattle.exh_everyday.specs.declared.JobPath.{JobPath}
use Rattle.exh_everyday.specs.declared.Ending.{Ending}
use Rattle.exh_everyday.specs.declared.Ending.TheVariants.{Over, Save, SaveNew}
use Rattle.exh_everyday.specs.declared.Status.{Status}
use Rattle.exh_everyday.specs.declared.Status.TheVariants.{Done, Refused}

-- Of what a first line begins, of a writer that held `old` bytes before a run and `new` ones after it, where these are
-- known, and of a reader that had `unread` bytes left.
module _ (begin : Beginning) (old new unread : Option (List ℕ)) where
  -- what was printed: the script's text, or the line of a reader that failed; after want of memory the text of a beginning
  -- of the script's lines, and the last line; after a fault of the writer a beginning of one of these; a page out of reach
  -- ends it with the text of a beginning of the lines
  abbrev pub RunPrints : Result (Option OpenedState) ServeFault → Type 0
  RunPrints (Ok left) = PrintsWhole begin (Appends old new) unread left ⊎ PrintsUnread (Appends old new) left
  RunPrints (Err Memory) = PrintsLines begin (λ text. Appends old new (text ++ memory_line)) unread
  RunPrints (Err Page) = PrintsLines begin (Appends old new) unread
  RunPrints (Err Write) = (PrintsText begin (AppendsBeginning old new) unread ⊎ AppendsBeginning old new unread_text)
      ⊎ PrintsLines begin (λ text. AppendsBeginning old new (text ++ memory_line)) unread

-- The status: done, with wards left, or refused as a whole, or cut off by the writer or want of memory
abbrev pub run_status : Result (Option OpenedState) ServeFault → Status
run_status (Ok (Some left)) = Done
run_status (Ok None) = Refused
run_status (Err stopped) = Refused

-- After a run the program ends with its status; or the wards that it left are saved first, where it is done and has a path
-- for them.
abbrev pub IsEnding : Result (Option OpenedState) ServeFault → Option JobPath → Ending → Type 0
IsEnding outcome path (Save one wards) = (outcome ≡ Ok (Some wards)) × (path ≡ Some one)
IsEnding outcome path (SaveNew one wards version) = ⊥
IsEnding (Ok (Some wards)) path (Over status) = (path ≡ None) × (status ≡ run_status (Ok (Some wards)))
IsEnding outcome path (Over status) = status ≡ run_status outcome
