-- The text of a script: a fold over its lines.
use Rattle.std.specs.Prelude.{ℕ, Bool, List, [], ◌∷◌, ◌++◌, length, nat_le, if◌then◌else◌, Result, Ok, Err}
use Rattle.exh_keyer.specs.declared.any_keyer.AnyKeyer.{AnyKeyer}
use Rattle.exh_keyer.specs.Pseudokey.{any_pseudokey}
use Rattle.exh_text.specs.TextLines.{lines_of}
use Rattle.exh_text.specs.declared.line_fault.LineFault.{LineFault}
use Rattle.exh_text.specs.declared.line_fault.LineFault.TheVariants.{Syntax}
use Rattle.exh_world.specs.NewWorld.{new_world}
use Rattle.exh_world.specs.Step.{CountsFailure}
use Rattle.exh_world.specs.StepFunction.{result_of, world_after}
use Rattle.exh_world.specs.World.{WorldState}
use Rattle.exh_page.specs.declared.config.Config.{Config}
use Rattle.exh_walk.specs.declared.step_fault.StepFault.{StepFault}
use Rattle.exh_line.specs.LineAnswer.{answer_text, step_answer}
use Rattle.exh_text.specs.FileLine.{file_line_of}
use Rattle.exh_line.specs.Grammar.{line_of}
use Rattle.exh_script.specs.View.{view_result}
use Rattle.exh_line.specs.declared.answer.Answer.{Answer}
use Rattle.exh_line.specs.declared.answer.Answer.TheVariants.{Refused}
use Rattle.exh_script.specs.declared.ended.Ended.{Ended}
use Rattle.exh_script.specs.declared.ended.Ended.TheVariants as ended
use Rattle.exh_text.specs.declared.settings.Settings.{Settings}
use Rattle.exh_text.specs.declared.script.TheConstants.{SCRIPT_LIMIT}
use Rattle.exh_line.specs.declared.line.Line.{Line}
use Rattle.exh_line.specs.declared.line.Line.TheVariants as lines
use Rattle.exh_line.specs.declared.refusal.Refusal.{Refusal}
use Rattle.exh_line.specs.declared.refusal.Refusal.TheVariants.{Line as LineRefusal, Step as StepRefusal, TooLong}

-- the world that a script works on
abbrev pub ScriptWorld : Type 0
ScriptWorld = WorldState AnyKeyer

-- ---- what a later line is answered, and the world after it

-- an answer, or a view of the world
pub data Response : Type 0 where
  Said : Answer → Response
  Shown : List ℕ → Response

-- what a view shows, or its refusal
abbrev pub view_response : Result (List ℕ) StepFault → Response
view_response (Ok text) = Shown text
view_response (Err fault) = Said (Refused (StepRefusal fault))

-- by whether a reply's line tells its moves
abbrev pub response_to : Bool → ScriptWorld → Line → Response
response_to tells_moves world (lines.Step event) = Said (step_answer tells_moves event (result_of any_pseudokey world event))
response_to tells_moves world (lines.View view) = view_response (view_result world view)

-- only a step changes the world
abbrev pub after_asked : ScriptWorld → Line → ScriptWorld
after_asked world (lines.Step event) = world_after any_pseudokey world event
after_asked world (lines.View view) = world

abbrev pub parsed_response : Bool → ScriptWorld → Result Line LineFault → Response
parsed_response tells_moves world (Ok line) = response_to tells_moves world line
parsed_response tells_moves world (Err fault) = Said (Refused (LineRefusal fault))

abbrev pub after_parsed : ScriptWorld → Result Line LineFault → ScriptWorld
after_parsed world (Ok line) = after_asked world line
after_parsed world (Err fault) = world

unfoldable pub line_response : Bool → ScriptWorld → List ℕ → Response
line_response tells_moves world line = parsed_response tells_moves world (line_of line)

unfoldable pub after_line : ScriptWorld → List ℕ → ScriptWorld
after_line world line = after_parsed world (line_of line)

abbrev pub response_text : Response → List ℕ
response_text (Said answer) = answer_text answer
response_text (Shown text) = text

abbrev pub text_from : Bool → ScriptWorld → List (List ℕ) → List ℕ
text_from tells_moves world [] = []
text_from tells_moves world (line ∷ lines) = response_text (line_response tells_moves world line) ++ text_from tells_moves (after_line world line) lines

-- a line that met a page out of reach has no response: a ward of the world has counted that, and nothing else differs
abbrev pub CountsPageFault : ScriptWorld → ScriptWorld → Type 0
CountsPageFault old new = (number : ℕ) × CountsFailure old number new

-- ---- the first line

-- the world that a first line of these settings begins, or why it begins none
abbrev pub Beginning : Type 0
Beginning = Config AnyKeyer → Result ScriptWorld Refusal

-- of a new file
abbrev pub new_file : Beginning
new_file file = Ok (new_world file)

-- a run before its second line: its world, and whether a reply's line tells its moves
pub record Start : Type 0 where
  pub world : ScriptWorld
  pub tells_moves : Bool

abbrev pub start_in : Bool → Result ScriptWorld Refusal → Result Start Refusal
start_in tells_moves (Ok world) = Ok (record { world = world; tells_moves = tells_moves })
start_in tells_moves (Err refusal) = Err refusal

abbrev pub opened : Result Settings LineFault → Result Settings Refusal
opened (Ok settings) = Ok settings
opened (Err fault) = Err (LineRefusal fault)

-- the settings of a right first line, else its refusal
unfoldable pub settings_of : List ℕ → Result Settings Refusal
settings_of line = opened (file_line_of line)

-- a run's text and end, by where it starts, or why it doesn't
abbrev pub text_after : Result Start Refusal → List (List ℕ) → List ℕ
text_after (Ok start) lines = text_from start.tells_moves start.world lines
text_after (Err refusal) lines = answer_text (Refused refusal)

abbrev pub ended_after : Result Start Refusal → Ended
ended_after (Ok start) = ended.Done
ended_after (Err refusal) = ended.Refused

module _ (begin : Beginning) where
  abbrev pub started : Result Settings Refusal → Result Start Refusal
  started (Ok settings) = start_in settings.tells_moves (begin settings.file)
  started (Err refusal) = Err refusal

  -- where a first line starts the run
  unfoldable pub start_of : List ℕ → Result Start Refusal
  start_of line = started (settings_of line)

  -- where there is no line, the first is wrong
  abbrev pub text_of_lines : List (List ℕ) → List ℕ
  text_of_lines [] = answer_text (Refused (LineRefusal Syntax))
  text_of_lines (first ∷ lines) = text_after (start_of first) lines

  abbrev pub ended_of_lines : List (List ℕ) → Ended
  ended_of_lines [] = ended.Refused
  ended_of_lines (first ∷ lines) = ended_after (start_of first)

  -- ---- a whole script

  -- what a script prints
  unfoldable pub text_of : List ℕ → List ℕ
  text_of script = if nat_le (length script) SCRIPT_LIMIT then text_of_lines (lines_of script) else answer_text (Refused TooLong)

  -- and how its run ends
  unfoldable pub ended_of : List ℕ → Ended
  ended_of script = if nat_le (length script) SCRIPT_LIMIT then ended_of_lines (lines_of script) else ended.Refused
