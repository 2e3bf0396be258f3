-- No hop of a script strays, where none of its world's does.
use Rattle.std.proofs.Common.{ℕ, Bool, List, [], ◌∷◌, ◌++◌, Result, Ok, Err, refl}
use Rattle.std.specs.Prelude.{◌≢◌}
use Rattle.std.specs.List.{All, AllByRecursion}
use Rattle.std.proofs.lemmas.List.Elements.{All-from_recursion, recursion_from_All}
use Rattle.exh_keyer.specs.declared.any_keyer.AnyKeyer.{AnyKeyer}
use Rattle.exh_keyer.specs.Pseudokey.{any_pseudokey}
use Rattle.exh_text.specs.declared.line_fault.LineFault.{LineFault}
use Rattle.exh_ward.specs.declared.hop.Hop.TheVariants as hops
use Rattle.exh_world.specs.Headline.{DoesNotStray as KeepsCourse}
use Rattle.exh_world.specs.WorldRun.{Moment}
use Rattle.exh_world.specs.StepFunction.{result_of}
use Rattle.exh_walk.specs.declared.event.Event.{Event}
use Rattle.exh_walk.specs.declared.outcome.Outcome.{Outcome}
use Rattle.exh_walk.specs.declared.outcome.Outcome.TheVariants as outcomes
use Rattle.exh_walk.specs.declared.step_fault.StepFault.{StepFault}
use Rattle.exh_line.specs.LineAnswer.{step_answer}
use Rattle.exh_line.specs.Grammar.{line_of}
use Rattle.exh_script.specs.Replies.{turns_from, SaysNoStray}
use Rattle.exh_script.specs.Text.{ScriptWorld, Said, view_response, parsed_response, line_response, after_line}
use Rattle.exh_script.specs.View.{view_result}
use Rattle.exh_line.specs.declared.answer.Answer.TheVariants.{Stray}
use Rattle.exh_line.specs.declared.line.Line.{Line}
use Rattle.exh_line.specs.declared.line.Line.TheVariants as lines
use Rattle.exh_script.proofs.LineMoments.{parsed_moments, moments_from}

strays_never : (tells_moves : Bool) (event : Event) (result : Result Outcome StepFault) → ((ward : ℕ) → result ≢ Ok (outcomes.Hopped ward hops.Stray)) → (name : ℕ) → Said (step_answer tells_moves event result) ≢ Said (Stray name)
strays_never tells_moves event (Err fault) none name same = cc
strays_never tells_moves event (Ok (outcomes.Begun ward page)) none name same = cc
strays_never tells_moves event (Ok (outcomes.Replied ward reply moves bound)) none name same = cc
strays_never tells_moves event (Ok (outcomes.Hopped ward (hops.Done reply))) none name same = cc
strays_never tells_moves event (Ok (outcomes.Hopped ward (hops.Moved next))) none name same = cc
strays_never tells_moves event (Ok (outcomes.Hopped ward hops.MustSplit)) none name same = cc
strays_never tells_moves event (Ok (outcomes.Hopped ward hops.Stray)) none name same = none ward refl
strays_never tells_moves event (Ok (outcomes.Changed notice)) none name same = cc
strays_never tells_moves event (Ok (outcomes.Taken notice)) none name same = cc
strays_never tells_moves event (Ok (outcomes.Sent number)) none name same = cc
strays_never tells_moves event (Ok outcomes.Joined) none name same = cc
strays_never tells_moves event (Ok outcomes.Restarted) none name same = cc

view_never : (shown : Result (List ℕ) StepFault) (name : ℕ) → view_response shown ≢ Said (Stray name)
view_never (Ok text) name same = cc
view_never (Err fault) name same = cc

abbrev AllKeepCourse : List (Moment AnyKeyer) → Type 0
AllKeepCourse moments = AllByRecursion (λ (moment : Moment AnyKeyer). KeepsCourse moment) moments

parsed_never : (tells_moves : Bool) (world : ScriptWorld) (parsed : Result Line LineFault) → AllKeepCourse (parsed_moments world parsed) → (name : ℕ) → parsed_response tells_moves world parsed ≢ Said (Stray name)
parsed_never tells_moves world (Ok (lines.Step event)) all name same = strays_never tells_moves event (result_of any_pseudokey world event) all.0 name same
parsed_never tells_moves world (Ok (lines.View view)) all name same = view_never (view_result world view) name same
parsed_never tells_moves world (Err fault) all name same = cc

line_never : (tells_moves : Bool) (world : ScriptWorld) (line : List ℕ) → AllKeepCourse (parsed_moments world (line_of line)) → (name : ℕ) → line_response tells_moves world line ≢ Said (Stray name)
unfolding line_response
line_never tells_moves world line = parsed_never tells_moves world (line_of line)

all_parts : (front back : List (Moment AnyKeyer)) → AllKeepCourse (front ++ back) → AllKeepCourse front × AllKeepCourse back
all_parts [] back all = (tt, all)
all_parts (moment ∷ front) back all = let rest = all_parts front back all.1 in ((all.0, rest.0), rest.1)

none_stray : (tells_moves : Bool) (world : ScriptWorld) (lines : List (List ℕ)) → AllKeepCourse (moments_from world lines) → AllByRecursion SaysNoStray (turns_from tells_moves world lines)
none_stray tells_moves world [] all = tt
none_stray tells_moves world (line ∷ lines) all =
    let parts = all_parts (parsed_moments world (line_of line)) (moments_from (after_line world line) lines) all in
    (line_never tells_moves world line parts.0, none_stray tells_moves (after_line world line) lines parts.1)

pub no_strays : (tells_moves : Bool) (world : ScriptWorld) (lines : List (List ℕ)) → All (λ (moment : Moment AnyKeyer). KeepsCourse moment) (moments_from world lines) → All SaysNoStray (turns_from tells_moves world lines)
no_strays tells_moves world lines all = All-from_recursion SaysNoStray (turns_from tells_moves world lines) (none_stray tells_moves world lines (recursion_from_All (λ (moment : Moment AnyKeyer). KeepsCourse moment) (moments_from world lines) all))
