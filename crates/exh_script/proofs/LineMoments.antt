-- The moments of lines: a step of the world for each line that asks for one, and the calls that it answers.
use Rattle.std.proofs.Common.{◌≡◌, ℕ, List, [], ◌∷◌, ◌++◌, map, Result, Ok, Err, refl, ap, ◌∙◌}
use Rattle.std.proofs.lemmas.Grind.{flat_map-append}
use Rattle.std.proofs.lemmas.List.{map-append, append-nil}
use Rattle.exh_keyer.specs.declared.any_keyer.AnyKeyer.{AnyKeyer}
use Rattle.exh_keyer.specs.Pseudokey.{any_pseudokey}
use Rattle.exh_text.specs.declared.line_fault.LineFault.{LineFault}
use Rattle.exh_calls.specs.declared.journal_entry.JournalEntry.{JournalEntry}
use Rattle.exh_world.specs.WorldRun.{Moment, Answered, answered_at, answered_in, journal_entry_of}
use Rattle.exh_world.specs.StepFunction.{result_of, world_after}
use Rattle.exh_walk.specs.declared.event.Event.{Event}
use Rattle.exh_walk.specs.declared.event.Event.TheVariants as events
use Rattle.exh_walk.specs.declared.step_fault.StepFault.{StepFault}
use Rattle.exh_line.specs.Grammar.{line_of}
use Rattle.exh_script.specs.Replies.{parsed_steps, steps_from}
use Rattle.exh_script.specs.Text.{ScriptWorld, after_line}
use Rattle.exh_line.specs.declared.line.Line.{Line}
use Rattle.exh_line.specs.declared.line.Line.TheVariants.{Step, View}

-- ---- moments

abbrev pub moments_of : ScriptWorld → Line → List (Moment AnyKeyer)
moments_of world (Step event) = record { before = world; turn = record { event = event; result = result_of any_pseudokey world event }; after = world_after any_pseudokey world event } ∷ []
moments_of world line = []

abbrev pub parsed_moments : ScriptWorld → Result Line LineFault → List (Moment AnyKeyer)
parsed_moments world (Ok line) = moments_of world line
parsed_moments world (Err fault) = []

abbrev pub moments_from : ScriptWorld → List (List ℕ) → List (Moment AnyKeyer)
moments_from world [] = []
moments_from world (line ∷ lines) = parsed_moments world (line_of line) ++ moments_from (after_line world line) lines

turns_parsed : (world : ScriptWorld) (parsed : Result Line LineFault) → map (λ (moment : Moment AnyKeyer). moment.turn) (parsed_moments world parsed) ≡ parsed_steps world parsed
turns_parsed world (Ok (Step event)) = refl
turns_parsed world (Ok (View view)) = refl
turns_parsed world (Err fault) = refl

-- their turns are the steps that the lines ask for
pub turns_are : (world : ScriptWorld) (lines : List (List ℕ)) → map (λ (moment : Moment AnyKeyer). moment.turn) (moments_from world lines) ≡ steps_from world lines
turns_are world [] = refl
turns_are world (line ∷ lines) =
    map-append (λ (moment : Moment AnyKeyer). moment.turn) (parsed_moments world (line_of line)) (moments_from (after_line world line) lines)
    ∙ ap (λ turns. turns ++ map (λ (moment : Moment AnyKeyer). moment.turn) (moments_from (after_line world line) lines)) (turns_parsed world (line_of line))
    ∙ ap (λ turns. parsed_steps world (line_of line) ++ turns) (turns_are (after_line world line) lines)

-- ---- entries

abbrev pub entries_of : ScriptWorld → Line → List JournalEntry
entries_of world (Step event) = map journal_entry_of (answered_at world event (result_of any_pseudokey world event))
entries_of world line = []

abbrev pub parsed_entries : ScriptWorld → Result Line LineFault → List JournalEntry
parsed_entries world (Ok line) = entries_of world line
parsed_entries world (Err fault) = []

abbrev pub entries_from : ScriptWorld → List (List ℕ) → List JournalEntry
entries_from world [] = []
entries_from world (line ∷ lines) = parsed_entries world (line_of line) ++ entries_from (after_line world line) lines

-- a refused event answers nothing
pub none_answered : (world : ScriptWorld) (event : Event) (fault : StepFault) → answered_at world event (Err fault) ≡ []
none_answered world (events.Begin name client copy call) fault = refl
none_answered world (events.Hop name) fault = refl
none_answered world (events.Split ward page) fault = refl
none_answered world (events.Merge ward page) fault = refl
none_answered world (events.Deliver copy ward index) fault = refl
none_answered world (events.Send copy) fault = refl
none_answered world (events.Combine copy table) fault = refl
none_answered world (events.Restart copy) fault = refl

entries_parsed : (world : ScriptWorld) (parsed : Result Line LineFault) → map journal_entry_of (answered_in (parsed_moments world parsed)) ≡ parsed_entries world parsed
entries_parsed world (Ok (Step event)) = ap (map journal_entry_of) (append-nil (answered_at world event (result_of any_pseudokey world event)))
entries_parsed world (Ok (View view)) = refl
entries_parsed world (Err fault) = refl

abbrev answered_by_moment : Moment AnyKeyer → List Answered
answered_by_moment moment = answered_at moment.before moment.turn.event moment.turn.result

-- they are those of the moments' answering hops
pub entries_are : (world : ScriptWorld) (lines : List (List ℕ)) → map journal_entry_of (answered_in (moments_from world lines)) ≡ entries_from world lines
entries_are world [] = refl
entries_are world (line ∷ lines) =
    ap (map journal_entry_of) (flat_map-append answered_by_moment (parsed_moments world (line_of line)) (moments_from (after_line world line) lines))
    ∙ map-append journal_entry_of (answered_in (parsed_moments world (line_of line))) (answered_in (moments_from (after_line world line) lines))
    ∙ ap (λ entries. entries ++ map journal_entry_of (answered_in (moments_from (after_line world line) lines))) (entries_parsed world (line_of line))
    ∙ ap (λ entries. parsed_entries world (line_of line) ++ entries) (entries_are (after_line world line) lines)
