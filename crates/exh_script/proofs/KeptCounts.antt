-- Lines leave no ward with a count of page faults that is less than it was.
use Rattle.std.proofs.Common.{◌≡◌, ℕ, ◌≤◌, List, Option, None, Some, Bool, true, false, cond, Result, Ok, Err, slice_get, inl, inr, sym, ap, ◌∙◌, arith}
use Rattle.std.specs.Prelude.{slice_set}
use Rattle.exh_prefix.specs.PrefixListLemmas.{set_here, set_is}
use Rattle.exh_keyer.specs.declared.any_keyer.AnyKeyer.{AnyKeyer}
use Rattle.exh_keyer.specs.Pseudokey.{any_pseudokey}
use Rattle.exh_text.specs.declared.line_fault.LineFault.{LineFault}
use Rattle.exh_ward.specs.WardState.{WardState}
use Rattle.exh_load.specs.Opened.{OpenedState}
use Rattle.exh_load.specs.LoadFault.{HasCountedFrom}
use Rattle.exh_page.specs.declared.config.Config.{Config}
use Rattle.exh_walk.specs.EventProgress.{Progress, Done, Moved, MustSplit, Stray}
use Rattle.exh_walk.specs.declared.event.Event.{Event}
use Rattle.exh_walk.specs.declared.outcome.Outcome.{Outcome}
use Rattle.exh_walk.specs.declared.step_fault.StepFault.{StepFault}
use Rattle.exh_world.specs.NewWorld.{world_of_wards}
use Rattle.exh_world.specs.Sound.{IsSoundWorld}
use Rattle.exh_world.specs.Step.{HasHopped, Step}
use Rattle.exh_world.specs.StepEffectLemmas.{on_effect}
use Rattle.exh_world.specs.StepFunction.{result_of, world_after}
use Rattle.exh_world.specs.WorldLaws.{StepsHaveOutcomes}
use Rattle.exh_line.specs.Grammar.{line_of}
use Rattle.exh_line.specs.declared.line.Line.{Line}
use Rattle.exh_line.specs.declared.line.Line.TheVariants as lines
use Rattle.exh_line.specs.declared.refusal.Refusal.TheVariants.{OtherFile}
use Rattle.exh_script.specs.OpenedScript.{beginning, is_of_file}
use Rattle.exh_script.specs.Served.{FallsNowhere, HasCountedMore, HaveCounted}
use Rattle.exh_script.specs.Text.{ScriptWorld, CountsPageFault, after_parsed, after_line}

pub falls_by_none : (world : ScriptWorld) → FallsNowhere world world
falls_by_none world = λ number after there. (after, there, omega arith)

pub falls_on : (old between new : ScriptWorld) → FallsNowhere old between → FallsNowhere between new → FallsNowhere old new
falls_on old between new first then = λ number after there.
    let one = then number after there in
    let other = first number one.0 one.1 in
    (other.0, other.1, omega (arith, one.2, other.2))

module _ (old : ScriptWorld) where
  same_wards : (new : ScriptWorld) → new.wards ≡ old.wards → FallsNowhere old new
  same_wards new same = λ number after there. (after, ap (λ wards. slice_get wards number) (sym same) ∙ there, omega arith)

  one_ward : (at : ℕ) (before left : WardState AnyKeyer) (new : ScriptWorld) → slice_get old.wards at ≡ Some before → new.wards ≡ slice_set old.wards at left → before.failures ≤ left.failures → FallsNowhere old new
  one_ward at before left new found wards_are most = λ number after there.
      elim (set_is old.wards at number before left after found (ap (λ wards. slice_get wards number) (sym wards_are) ∙ there)) [
        | inl own ↦ (before, ap (slice_get old.wards) own.0 ∙ found, omega (arith, most, ap (λ (w : WardState AnyKeyer). w.failures) own.1))
        | inr else ↦ (after, else.1, omega arith)
      ]

  by_hop : (name ward : ℕ) (hop : Progress) (new : ScriptWorld) → HasHopped any_pseudokey old name ward hop new → FallsNowhere old new
  by_hop name ward (Done reply moves bound) new has =
      one_ward ward has.before has.left new has.found (ap (λ (w : ScriptWorld). w.wards) has.after) (omega (arith, ap (λ (w : WardState AnyKeyer). w.failures) has.leaves.others))
  by_hop name ward (Moved next) new has = one_ward ward has.before has.left new has.found (ap (λ (w : ScriptWorld). w.wards) has.after) (omega (arith, ap (λ (w : WardState AnyKeyer). w.failures) has.leaves))
  by_hop name ward MustSplit new has = one_ward ward has.before has.left new has.found (ap (λ (w : ScriptWorld). w.wards) has.after) (omega (arith, ap (λ (w : WardState AnyKeyer). w.failures) has.leaves))
  by_hop name ward Stray new has = one_ward ward has.before has.left new has.found (ap (λ (w : ScriptWorld). w.wards) has.after) (omega (arith, ap (λ (w : WardState AnyKeyer). w.failures) has.leaves))

  abbrev Falls : Event → Outcome → ScriptWorld → Type 0
  Falls event outcome new = FallsNowhere old new

  step_falls : (event : Event) (result : Result Outcome StepFault) (new : ScriptWorld) → Step any_pseudokey old event result new → FallsNowhere old new
  step_falls event (Ok outcome) new step = on_effect any_pseudokey old Falls record {
    begun = λ name client copy call ward page new has. same_wards new (ap (λ (w : ScriptWorld). w.wards) has.after);
    hopped = λ name ward hop new has. by_hop name ward hop new has;
    split = λ ward page notice new has. one_ward ward has.before has.left new has.found (ap (λ (w : ScriptWorld). w.wards) has.after) (omega (arith, ap (λ (w : WardState AnyKeyer). w.failures) has.change.others));
    merge = λ ward page notice new has. one_ward ward has.before has.left new has.found (ap (λ (w : ScriptWorld). w.wards) has.after) (omega (arith, ap (λ (w : WardState AnyKeyer). w.failures) has.change.others));
    taken = λ copy ward index notice new has. same_wards new (ap (λ (w : ScriptWorld). w.wards) has.after);
    sent = λ copy number new has. same_wards new (ap (λ (w : ScriptWorld). w.wards) has.after);
    joined = λ copy table new has. same_wards new (ap (λ (w : ScriptWorld). w.wards) has.after);
    restarted = λ copy new has. same_wards new (ap (λ (w : ScriptWorld). w.wards) has.after);
  } event outcome new step
  step_falls event (Err fault) new step = elim step [
    | inl is ↦ same_wards new (ap (λ (w : ScriptWorld). w.wards) is.0)
    | inr is ↦
        let counts = is.3 in
        one_ward is.1 counts.before (record counts.before { failures = counts.failures }) new counts.found (ap (λ (w : ScriptWorld). w.wards) counts.after) (omega (arith, counts.more))
  ]

module _ (outcomes : StepsHaveOutcomes any_pseudokey) where
  parsed_falls : (world : ScriptWorld) → IsSoundWorld any_pseudokey world → (parsed : Result Line LineFault) → FallsNowhere world (after_parsed world parsed)
  parsed_falls world sound (Ok (lines.Step event)) = step_falls world event (result_of any_pseudokey world event) (world_after any_pseudokey world event) (outcomes world event sound)
  parsed_falls world sound (Ok (lines.View view)) = falls_by_none world
  parsed_falls world sound (Err fault) = falls_by_none world

  pub line_falls : (world : ScriptWorld) → IsSoundWorld any_pseudokey world → (line : List ℕ) → FallsNowhere world (after_line world line)
  unfolding after_line
  line_falls world sound line = parsed_falls world sound (line_of line)

-- ---- stores that have counted

module _ {P : Type 0} (failures : P → ℕ) where
  -- a ward that met a page out of reach at a line, and a store that has counted as many
  pub one_more : (old new : ScriptWorld) → CountsPageFault old new → HaveCounted failures new → HasCountedMore failures old
  one_more old new met have =
      let counts = met.1 in
      let ward : WardState AnyKeyer = record counts.before { failures = counts.failures } in
      let there : slice_get new.wards met.0 ≡ Some ward = ap (λ (w : ScriptWorld). slice_get w.wards met.0) counts.after ∙ set_here old.wards met.0 counts.before ward counts.found in
      let store = have met.0 ward there (omega (arith, counts.more)) in
      (store.0, met.0, counts.before, counts.found, omega (arith, counts.more, store.1))

  pub more_before : (old new : ScriptWorld) → FallsNowhere old new → HasCountedMore failures new → HasCountedMore failures old
  more_before old new falls (store, number, after, there, more) =
      let was = falls number after there in
      (store, number, was.0, was.1, omega (arith, was.2, more))

  over_file : (opened : OpenedState) (file : Config AnyKeyer) (world : ScriptWorld) (own : Bool) → cond own (Ok (world_of_wards file opened.wards)) (Err OtherFile) ≡ Ok world → HasCountedMore failures world → HasCountedFrom failures (Some opened)
  over_file opened file world true is (store, number, ward, there, more) =
      let same : world_of_wards file opened.wards ≡ world = cc in
      (store, number, ward, ap (λ (w : ScriptWorld). slice_get w.wards number) same ∙ there, more)
  over_file opened file world false is counted = cc

  -- and so of the file that the world begins over
  pub counted_from : (from : Option OpenedState) (file : Config AnyKeyer) (world : ScriptWorld) → Ok world ≡ beginning from file → HasCountedMore failures world → HasCountedFrom failures from
  counted_from None file world begun (store, number, ward, there, more) = (store, omega (arith, more))
  counted_from (Some opened) file world begun counted = over_file opened file world (is_of_file opened file) (sym begun) counted
