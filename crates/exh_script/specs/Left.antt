-- The wards that the run of a script leaves, where it is done.
use Rattle.std.specs.Prelude.{ℕ, List, [], ◌∷◌, length, nat_le, if◌then◌else◌, Option, None, Some, Result, Ok, Err}
use Rattle.exh_text.specs.TextLines.{lines_of}
use Rattle.exh_load.specs.Opened.{OpenedState}
use Rattle.exh_script.specs.Replies.{world_left}
use Rattle.exh_script.specs.Text.{ScriptWorld, Beginning, Start, start_of}
use Rattle.exh_script.specs.declared.ended.Ended.{Ended}
use Rattle.exh_script.specs.declared.ended.Ended.TheVariants as ended
use Rattle.exh_line.specs.declared.refusal.Refusal.{Refusal}
use Rattle.exh_text.specs.declared.script.TheConstants.{SCRIPT_LIMIT}

-- a world's wards, as those of a file
abbrev pub file_left : ScriptWorld → OpenedState
file_left world = record { cap = world.cap; ward_bits = world.ward_bits; keyer = world.keyer; wards = world.wards }

-- of a run by where it starts, or why it doesn't: its wards after the last line, or none
abbrev pub left_after : Result Start Refusal → List (List ℕ) → Option OpenedState
left_after (Ok start) lines = Some (file_left (world_left start.world lines))
left_after (Err refusal) lines = None

module _ (begin : Beginning) where
  abbrev pub left_of_lines : List (List ℕ) → Option OpenedState
  left_of_lines [] = None
  left_of_lines (first ∷ lines) = left_after (start_of begin first) lines

  -- of a whole script
  unfoldable pub left_of : List ℕ → Option OpenedState
  left_of script = if nat_le (length script) SCRIPT_LIMIT then left_of_lines (lines_of script) else None

-- how a run ended, by the wards that it left
abbrev pub ended_with : Option OpenedState → Ended
ended_with None = ended.Refused
ended_with (Some opened) = ended.Done
