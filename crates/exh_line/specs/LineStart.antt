-- Lines of the kinds that scripts have most, as far as they are read without their call.
use Rattle.std.specs.Prelude.{◌≡◌, ℕ, List, Ok}
use Rattle.exh_calls.specs.declared.call.Call.{Call}
use Rattle.exh_walk.specs.declared.event.Event.{Event}
use Rattle.exh_walk.specs.declared.event.Event.TheVariants as events
use Rattle.exh_text.specs.LineFault.{ranged}
use Rattle.exh_line.specs.Grammar.{call_in_range, line_in_range, line_of, spelled_begin, spelled_call}
use Rattle.exh_line.specs.declared.line.Line.TheVariants as lines
use Rattle.exh_line.specs.declared.line_start.BeginWords.{BeginWords}
use Rattle.exh_line.specs.declared.line_start.LineStart.{LineStart}
use Rattle.exh_line.specs.declared.line_start.LineStart.TheVariants.{Begin, Step}
use Rattle.exh_line.specs.declared.short_step.ShortStep.{ShortStep}
use Rattle.exh_line.specs.declared.short_step.ShortStep.TheVariants as steps

-- the event that a step without a call is
abbrev pub short_event : ShortStep → Event
short_event (steps.Hop name) = events.Hop name
short_event (steps.Split ward page) = events.Split ward page
short_event (steps.Deliver copy ward index) = events.Deliver copy ward index

-- where the last words spell a call in its range, all of them are a `begin` of it
abbrev pub IsBeginOf : List (List ℕ) → BeginWords → Type 0
IsBeginOf words begin = (call : Call) → ranged call_in_range (spelled_call begin.call) ≡ Ok call → ranged line_in_range (spelled_begin words) ≡ Ok (lines.Step (events.Begin begin.name begin.client begin.copy call))

-- a line with this start asks for this step, and where its last words spell a call in its range, for a `begin` of it
abbrev pub IsStartOf : List ℕ → LineStart → Type 0
IsStartOf line (Begin begin) = (call : Call) → ranged call_in_range (spelled_call begin.call) ≡ Ok call → line_of line ≡ Ok (lines.Step (events.Begin begin.name begin.client begin.copy call))
IsStartOf line (Step step) = line_of line ≡ Ok (lines.Step (short_event step))
