-- Lines leave a world's settings as they were.
use Rattle.std.proofs.Common.{◌≡◌, ℕ, List, [], ◌∷◌, Result, Ok, Err, refl, ap, ◌∙◌}
use Rattle.exh_keyer.specs.declared.any_keyer.AnyKeyer.{AnyKeyer}
use Rattle.exh_keyer.specs.Pseudokey.{any_pseudokey}
use Rattle.exh_text.specs.declared.line_fault.LineFault.{LineFault}
use Rattle.exh_world.specs.StepEffectLemmas.{on_effect, on_refusal}
use Rattle.exh_world.specs.NewWorld.{settings_of}
use Rattle.exh_world.specs.Sound.{IsSoundWorld}
use Rattle.exh_world.specs.Step.{Step}
use Rattle.exh_world.specs.StepFunction.{result_of, world_after}
use Rattle.exh_page.specs.declared.config.Config.{Config}
use Rattle.exh_walk.specs.declared.event.Event.{Event}
use Rattle.exh_walk.specs.declared.outcome.Outcome.{Outcome}
use Rattle.exh_walk.specs.declared.step_fault.StepFault.{StepFault}
use Rattle.exh_line.specs.Grammar.{line_of}
use Rattle.exh_script.specs.Replies.{world_left}
use Rattle.exh_script.specs.Text.{ScriptWorld, after_parsed, after_line}
use Rattle.exh_line.specs.declared.line.Line.{Line}
use Rattle.exh_line.specs.declared.line.Line.TheVariants as lines
use Rattle.exh_script.proofs.KeptWorlds.{WorldLaws, IsServedWorld, line_kept}

module _ (copies : ℕ) where
  abbrev settings : ScriptWorld → Config AnyKeyer
  settings world = settings_of world copies

  module _ (old : ScriptWorld) where
    abbrev Keeps : Event → Outcome → ScriptWorld → Type 0
    Keeps event outcome new = settings new ≡ settings old

    step_keeps : (event : Event) (result : Result Outcome StepFault) (new : ScriptWorld) → Step any_pseudokey old event result new → settings new ≡ settings old
    step_keeps event (Ok outcome) new step = on_effect any_pseudokey old Keeps record {
      begun = λ name client copy call ward page new has. ap settings has.after;
      hopped = λ name ward hop new has. ap settings has.after;
      split = λ ward page notice new has. ap settings has.after;
      merge = λ ward page notice new has. ap settings has.after;
      taken = λ copy ward index notice new has. ap settings has.after;
      sent = λ copy number new has. ap settings has.after;
      joined = λ copy table new has. ap settings has.after;
      restarted = λ copy new has. ap settings has.after;
    } event outcome new step
    step_keeps event (Err fault) new step = on_refusal any_pseudokey old (λ new. settings new ≡ settings old) refl (λ number before failures found. refl) event fault new step

  module _ (laws : WorldLaws) where
    parsed_keeps : (world : ScriptWorld) → IsSoundWorld any_pseudokey world → (parsed : Result Line LineFault) → settings (after_parsed world parsed) ≡ settings world
    parsed_keeps world sound (Ok (lines.Step event)) = step_keeps world event (result_of any_pseudokey world event) (world_after any_pseudokey world event) (laws.outcomes world event sound)
    parsed_keeps world sound (Ok (lines.View view)) = refl
    parsed_keeps world sound (Err fault) = refl

    line_keeps : (world : ScriptWorld) → IsSoundWorld any_pseudokey world → (line : List ℕ) → settings (after_line world line) ≡ settings world
    unfolding after_line
    line_keeps world sound line = parsed_keeps world sound (line_of line)

    pub lines_keep : (world : ScriptWorld) → IsSoundWorld any_pseudokey world → (lines : List (List ℕ)) → settings (world_left world lines) ≡ settings world
    lines_keep world sound [] = refl
    lines_keep world sound (line ∷ lines) =
        let is : IsServedWorld world.ward_bits world.keyer world = record { sound = sound; bits_are = refl; keyer_is = refl } in
        lines_keep (after_line world line) (line_kept laws world.ward_bits world.keyer world is line).sound lines ∙ line_keeps world sound line
