-- The answers of a run from a sound world are bounded.
use Rattle.std.proofs.Common.{◌≡◌, ℕ, List, [], ◌∷◌, Result, Ok, Err, refl, sym, ap, subst, arith}
use Rattle.std.specs.List.{AllByRecursion}
use Rattle.std.specs.Option.{option_map_or}
use Rattle.exh_prefix.specs.PrefixListLemmas.{AllByRecursion-append}
use Rattle.exh_world.specs.StepEffectLemmas.{on_effect}
use Rattle.exh_world.specs.RequestMoves.{IsBounded}
use Rattle.exh_world.specs.RequestProgress.{bound_in}
use Rattle.exh_world.specs.RequestLemmas.{all_named}
use Rattle.exh_world.specs.WorldRun.{Moment, IsRun, answered_by, answered_at, answered_in}
use Rattle.exh_world.specs.Sound.{IsOnTheWay, IsSoundWorld}
use Rattle.exh_world.specs.Step.{HasHopped, HasEffect, Step}
use Rattle.exh_world.specs.World.{WorldState}
use Rattle.exh_walk.specs.declared.event.Event.{Event}
use Rattle.exh_walk.specs.declared.event.Event.TheVariants.{Hop as HopOn}
use Rattle.exh_walk.specs.declared.outcome.Outcome.{Outcome}
use Rattle.exh_walk.specs.declared.outcome.Outcome.TheVariants.{Replied}
use Rattle.exh_walk.specs.EventProgress.{Progress, Done, Moved, MustSplit, Stray, hop_outcome}
use Rattle.exh_walk.specs.declared.step_fault.StepFault.{StepFault}

module _ {K : Type 0} (pseudokey_of : K → List ℕ → ℕ) (old : WorldState K) (sound : IsSoundWorld pseudokey_of old) where
  hop_bounded : (name ward : ℕ) (hop : Progress) (new : WorldState K) → HasHopped pseudokey_of old name ward hop new → AllByRecursion IsBounded (answered_at old (HopOn name) (Ok (hop_outcome ward hop)))
  hop_bounded name ward (Moved next) new has = tt
  hop_bounded name ward MustSplit new has = tt
  hop_bounded name ward Stray new has = tt
  hop_bounded name ward (Done reply moves bound) new has =
      let request = has.request in
      let told : answered_at old (HopOn name) (Ok (Replied ward reply moves bound)) ≡ answered_by old reply moves bound request ∷ [] = ap (λ found. option_map_or (λ request. answered_by old reply moves bound request ∷ []) found []) has.there in
      let way : IsOnTheWay pseudokey_of old request = all_named (IsOnTheWay pseudokey_of old) name old.in_flight request sound.requests has.there in
      let counted : Done reply moves bound ≡ Done reply request.moves (bound_in old request) = has.counted in
      let moves_are : moves ≡ request.moves = cc in
      let bound_is : bound ≡ bound_in old request = cc in
      let few = way.few in
      subst (AllByRecursion IsBounded) (sym told) (record { moves = moves_are; bound = bound_is; within = omega (arith, moves_are, bound_is, few) }, tt)

  effect_bounded : (event : Event) (outcome : Outcome) (new : WorldState K) → HasEffect pseudokey_of old event outcome new → AllByRecursion IsBounded (answered_at old event (Ok outcome))
  effect_bounded = on_effect pseudokey_of old (λ event outcome new. AllByRecursion IsBounded (answered_at old event (Ok outcome))) record {
    begun = λ name client copy call ward page new has. tt;
    hopped = hop_bounded;
    split = λ ward page notice new has. tt;
    merge = λ ward page notice new has. tt;
    taken = λ copy ward index notice new has. tt;
    sent = λ copy number new has. tt;
    joined = λ copy table new has. tt;
    restarted = λ copy new has. tt;
  }

  none_answered : (event : Event) (fault : StepFault) → answered_at old event (Err fault) ≡ []
  none_answered (HopOn name) fault = refl
  none_answered event fault = refl

  pub step_bounded : (event : Event) (result : Result Outcome StepFault) (new : WorldState K) → Step pseudokey_of old event result new → AllByRecursion IsBounded (answered_at old event result)
  step_bounded event (Ok outcome) new step = effect_bounded event outcome new step
  step_bounded event (Err fault) new step = subst (AllByRecursion IsBounded) (sym (none_answered event fault)) tt

pub run_bounded : {K : Type 0} (pseudokey_of : K → List ℕ → ℕ) (start : WorldState K) (moments : List (Moment K)) (end : WorldState K)
    → AllByRecursion (λ (moment : Moment K). IsSoundWorld pseudokey_of moment.before × IsSoundWorld pseudokey_of moment.after) moments → IsRun pseudokey_of start moments end → AllByRecursion IsBounded (answered_in moments)
run_bounded pseudokey_of start [] end sound run = tt
run_bounded pseudokey_of start (moment ∷ moments) end sound run =
    let step = let P : WorldState _ → Type 0 = λ w. Step pseudokey_of w moment.turn.event moment.turn.result moment.after in subst P (sym run.0) run.1 in
    AllByRecursion-append IsBounded (answered_at moment.before moment.turn.event moment.turn.result) (answered_in moments) (step_bounded pseudokey_of moment.before sound.0.0 moment.turn.event moment.turn.result moment.after step)
    (run_bounded pseudokey_of moment.after moments end sound.1 run.2)
