-- A world's wards stay sound where one is left sound.
use Rattle.std.proofs.Common.{◌≡◌, ℕ, List, slice_get, Some, sym, ap, ◌∙◌, inl, inr, subst}
use Rattle.std.specs.Prelude.{slice_set}
use Rattle.exh_prefix.specs.PrefixListLemmas.{set_is}
use Rattle.exh_ward.specs.WardState.{WardState, IsSoundWard}
use Rattle.exh_world.specs.WorldLaws.{AreWardsSound}
use Rattle.exh_world.specs.Sound.{IsSoundWorld}
use Rattle.exh_world.specs.World.{WorldState}

pub wards_left : {K : Type 0} (pseudokey_of : K → List ℕ → ℕ) (old new : WorldState K) (at : ℕ) (before left : WardState K) → IsSoundWorld pseudokey_of old
    → new.wards ≡ slice_set old.wards at left → slice_get old.wards at ≡ Some before → IsSoundWard pseudokey_of left → AreWardsSound pseudokey_of new
wards_left pseudokey_of old new at before left sound wards found left_sound number ward is =
    elim (set_is old.wards at number before left ward found (ap (λ ws. slice_get ws number) (sym wards) ∙ is)) [
      | inl here ↦ subst (IsSoundWard pseudokey_of) (sym here.1) left_sound
      | inr else ↦ (sound.wards number ward else.1).sound
    ]
