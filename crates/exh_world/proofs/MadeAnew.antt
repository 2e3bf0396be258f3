-- A world that is taken apart gives wards of which one can be made anew.
use Rattle.std.proofs.Common.{◌≡◌, ℕ, List, [], length, drop, slice_get, Option, None, Some, refl, ap, ◌∙◌, arith}
use Rattle.std.specs.Option.{option_map, option_map_or}
use Rattle.std.proofs.lemmas.List.{drop_all}
use Rattle.std.proofs.lemmas.Option.{slice_get-map}
use Rattle.exh_ward.specs.WardState.{WardState}
use Rattle.exh_world.specs.NewWorld.{AreWardsFor, IsMadeAnew, settings_of, world_of_wards}
use Rattle.exh_world.specs.Sound.{IsSoundWorld}
use Rattle.exh_world.specs.World.{WorldState, changes_in}

module _ {K : Type 0} {pseudokey_of : K → List ℕ → ℕ} (world : WorldState K) (sound : IsSoundWorld pseudokey_of world) where
  module _ (count : ℕ) where
    pub wards_for : AreWardsFor (settings_of world count) world.wards
    wards_for number ward is =
        let of = sound.wards number ward is in
        record { cap = of.cap; bits = of.bits; number_is = of.number_is; keyer = of.keyer }

    abbrev new : WorldState K
    new = world_of_wards (settings_of world count) world.wards

    -- all of a ward's notices were there before
    all_before : (found : Option (WardState K)) → option_map_or (λ noticed. drop noticed (option_map_or (λ (ward : WardState K). ward.notices) found [])) (option_map (λ (ward : WardState K). length ward.notices) found) [] ≡ []
    all_before None = refl
    all_before (Some ward) = drop_all (length ward.notices) ward.notices (omega arith)

    no_changes : (number : ℕ) → changes_in new number ≡ []
    no_changes number =
        ap (λ noticed. option_map_or (λ before. drop before (option_map_or (λ (ward : WardState K). ward.notices) (slice_get world.wards number) [])) noticed []) (slice_get-map (λ (ward : WardState K). length ward.notices) world.wards number)
        ∙ all_before (slice_get world.wards number)

    pub made_anew : IsMadeAnew world count new
    made_anew = record {
      settings = refl;
      wards = refl;
      start = refl;
      copies = refl;
      issued = λ number. refl;
      changes = no_changes;
      sent = refl;
      in_flight = refl;
    }
