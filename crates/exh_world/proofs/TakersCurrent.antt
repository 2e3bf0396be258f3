-- Copies that took all changes of a ward over a run are current in it.
use Rattle.std.proofs.Common.{◌≡◌, ℕ, List, [], ◌∷◌, slice_get, Some, sym, ◌∙◌, subst}
use Rattle.std.specs.List.{AllByRecursion}
use Rattle.std.proofs.lemmas.List.Elements.{All-from_recursion}
use Rattle.exh_table.specs.Table.{TableMap, IsTableOf}
use Rattle.exh_ward.specs.WardState.{WardState}
use Rattle.exh_walk.specs.RouteLaws.{RunsKeepWardsSound}
use Rattle.exh_world.specs.Current.{IsCurrentIn}
use Rattle.exh_world.specs.Headline.{IsHeadline}
use Rattle.exh_world.specs.WorldLaws.{AreWardsSound, RunsCarryTheHeadline, StepsKeepWorldsSound}
use Rattle.exh_world.specs.WorldRun.{Moment, IsRun}
use Rattle.exh_world.specs.Sound.{IsSoundWorld}
use Rattle.exh_world.specs.Taken.{HasTakenAll, turns_of}
use Rattle.exh_world.specs.World.{WorldState, numbered}
use Rattle.exh_world.proofs.GoingOn.{run_sound}
use Rattle.exh_world.proofs.ToldTruly.{taker_current}
use Rattle.exh_world.proofs.WardTurns.{stays_sound}

module _ {K : Type 0} (pseudokey_of : K → List ℕ → ℕ) (keep : StepsKeepWorldsSound pseudokey_of) (runs : RunsKeepWardsSound pseudokey_of) where
  wards_along : (start : WorldState K) (moments : List (Moment K)) (end : WorldState K) → IsSoundWorld pseudokey_of start → IsRun pseudokey_of start moments end
      → AllByRecursion (λ (moment : Moment K). AreWardsSound pseudokey_of moment.after) moments
  wards_along start [] end sound run = tt
  wards_along start (moment ∷ moments) end sound run =
      let next = stays_sound pseudokey_of start sound runs keep moment.turn.event moment.turn.result moment.after run.1 in
      (λ number ward is. (next.wards number ward is).sound, wards_along moment.after moments end next run.2)

  pub taker_along : RunsCarryTheHeadline pseudokey_of → (start : WorldState K) (moments : List (Moment K)) (end : WorldState K) → IsSoundWorld pseudokey_of start → IsRun pseudokey_of start moments end
      → (copy : ℕ) (table : TableMap) (number : ℕ) (ward : WardState K) → numbered end.copies copy ≡ Some table → slice_get end.wards number ≡ Some ward → HasTakenAll start (turns_of moments) end copy number → IsCurrentIn end number table
  taker_along carry start moments end sound run copy table number ward there is has =
      let headline : IsHeadline pseudokey_of start (turns_of moments) end =
      (carry start moments end sound (All-from_recursion (λ (moment : Moment K). AreWardsSound pseudokey_of moment.after) moments (wards_along start moments end sound run)) run).0 in
      let known = headline.tables copy table there in
      let same : known.0 ≡ has.taken = let both : Some known.0 ≡ Some has.taken = sym known.1 ∙ has.is_taken in cc in
      taker_current pseudokey_of end (run_sound pseudokey_of keep runs start moments end sound run) copy table there number ward is has.taken (subst (λ taken. IsTableOf taken table) same known.2) has.each
