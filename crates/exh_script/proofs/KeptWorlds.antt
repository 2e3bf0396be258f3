-- What lines leave of a sound world: a sound one, with the same settings. The moments of the lines are a run between them.
use Rattle.std.proofs.Common.{◌≡◌, ℕ, List, [], ◌∷◌, ◌++◌, map, slice_get, Some, Result, Ok, Err, refl, ◌∙◌}
use Rattle.std.specs.List.{AllByRecursion}
use Rattle.exh_keyer.specs.declared.any_keyer.AnyKeyer.{AnyKeyer}
use Rattle.exh_keyer.specs.Pseudokey.{any_pseudokey}
use Rattle.exh_walk.specs.RouteLaws.{RunsKeepWardsSound}
use Rattle.exh_text.specs.declared.line_fault.LineFault.{LineFault}
use Rattle.exh_ward.specs.WardState.{WardState, IsSoundWard}
use Rattle.exh_world.specs.WorldLaws.{AreWardsSound, StepsHaveOutcomes, StepsKeepWorldsSound}
use Rattle.exh_world.specs.WorldRun.{Moment, IsRun, answered_at, journal_entry_of}
use Rattle.exh_world.specs.Sound.{IsSoundWorld}
use Rattle.exh_world.specs.StepFunction.{result_of, world_after}
use Rattle.exh_walk.specs.declared.event.Event.{Event}
use Rattle.exh_line.specs.Grammar.{line_of}
use Rattle.exh_script.specs.Replies.{world_left}
use Rattle.exh_script.specs.Text.{ScriptWorld, after_parsed, after_line}
use Rattle.exh_line.specs.declared.line.Line.{Line}
use Rattle.exh_line.specs.declared.line.Line.TheVariants.{Step, View}
use Rattle.exh_script.proofs.LineMoments.{parsed_moments, moments_from}
use Rattle.exh_script.proofs.WardSteps.{AreWardsLeft, wards_left}

-- what holds of every world
pub record WorldLaws : Type 0 where
  pub outcomes : StepsHaveOutcomes any_pseudokey
  pub keep_sound : StepsKeepWorldsSound any_pseudokey
  pub wards : RunsKeepWardsSound any_pseudokey

pub record IsServedWorld (ward_bits : ℕ) (keyer : AnyKeyer) (world : ScriptWorld) : Type 0 where
  pub sound : IsSoundWorld any_pseudokey world
  pub bits_are : world.ward_bits ≡ ward_bits
  pub keyer_is : world.keyer ≡ keyer

module _ (laws : WorldLaws) (ward_bits : ℕ) (keyer : AnyKeyer) where
  abbrev pub Kept : ScriptWorld → Type 0
  Kept = IsServedWorld ward_bits keyer

  -- ---- one step

  module _ (old : ScriptWorld) (is : Kept old) (event : Event) where
    abbrev new : ScriptWorld
    new = world_after any_pseudokey old event

    pub step_left : AreWardsLeft old (map journal_entry_of (answered_at old event (result_of any_pseudokey old event))) new
    step_left = wards_left old laws.wards is.sound event (result_of any_pseudokey old event) new (laws.outcomes old event is.sound)

    step_wards : (number : ℕ) (ward : WardState AnyKeyer) → slice_get new.wards number ≡ Some ward → IsSoundWard any_pseudokey ward
    step_wards number ward there =
        let left = step_left.wards number ward there in
        left.kept (is.sound.wards number left.before left.there).sound

    pub step_kept : Kept new
    step_kept = record {
      sound = laws.keep_sound old event (result_of any_pseudokey old event) new is.sound (laws.outcomes old event is.sound) step_wards;
      bits_are = step_left.bits ∙ is.bits_are;
      keyer_is = step_left.keyer ∙ is.keyer_is;
    }

  -- ---- one line

  parsed_kept : (world : ScriptWorld) → Kept world → (parsed : Result Line LineFault) → Kept (after_parsed world parsed)
  parsed_kept world is (Ok (Step event)) = step_kept world is event
  parsed_kept world is (Ok (View view)) = is
  parsed_kept world is (Err fault) = is

  pub line_kept : (world : ScriptWorld) → Kept world → (line : List ℕ) → Kept (after_line world line)
  unfolding after_line
  line_kept world is line = parsed_kept world is (line_of line)

  -- ---- all lines

  abbrev AreSoundAfter : List (Moment AnyKeyer) → Type 0
  AreSoundAfter moments = AllByRecursion (λ (moment : Moment AnyKeyer). AreWardsSound any_pseudokey moment.after) moments

  module _ (moments : List (Moment AnyKeyer)) (end : ScriptWorld) where
    abbrev RunsOn : ScriptWorld → List (Moment AnyKeyer) → Type 0
    RunsOn world moments = IsRun any_pseudokey world moments end × AreSoundAfter moments

    parsed_run : (world : ScriptWorld) → Kept world → (parsed : Result Line LineFault) → RunsOn (after_parsed world parsed) moments → RunsOn world (parsed_moments world parsed ++ moments)
    parsed_run world is (Ok (Step event)) rest =
        ((refl, laws.outcomes world event is.sound, rest.0), (λ number ward there. ((step_kept world is event).sound.wards number ward there).sound, rest.1))
    parsed_run world is (Ok (View view)) rest = rest
    parsed_run world is (Err fault) rest = rest

    line_run : (world : ScriptWorld) → Kept world → (line : List ℕ) → RunsOn (after_line world line) moments → RunsOn world (parsed_moments world (line_of line) ++ moments)
    unfolding after_line
    line_run world is line = parsed_run world is (line_of line)

  -- the moments are a run, with sound wards after each
  pub lines_run : (world : ScriptWorld) → Kept world → (lines : List (List ℕ)) → IsRun any_pseudokey world (moments_from world lines) (world_left world lines) × AreSoundAfter (moments_from world lines)
  lines_run world is [] = (refl, tt)
  lines_run world is (line ∷ lines) =
      line_run (moments_from (after_line world line) lines) (world_left (after_line world line) lines) world is line (lines_run (after_line world line) (line_kept world is line) lines)
