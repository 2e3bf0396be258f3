-- The wards of a new file are sound.
use Rattle.std.proofs.Common.{ℕ, ◌^◌, ◌≤◌, List, refl, sym, subst, arith}
use Rattle.exh_prefix.specs.BitLemmas.{length-bits_of}
use Rattle.exh_table.specs.SetLemmas.{since_nothing}
use Rattle.exh_legal.specs.LegalLaws.{LonePagesAreLegal}
use Rattle.exh_prefix.specs.Leading.{ward_prefix}
use Rattle.exh_ward.specs.WardState.{IsSoundWard}
use Rattle.exh_prefix.specs.declared.prefix.TheConstants.{WARD_BITS_LIMIT}
use Rattle.exh_ward.specs.NewWards.{new_ward}
use Rattle.exh_world.specs.NewWorld.{new_world}
use Rattle.exh_page.specs.Config.{file_settings}
use Rattle.exh_page.specs.declared.config.Config.{Config}
use Rattle.exh_world.proofs.FreshWorld.{AreSoundWards}
use Rattle.exh_world.specs.WorldListLemmas.{mapped_is}

module _ {K : Type 0} (pseudokey_of : K → List ℕ → ℕ) (law : LonePagesAreLegal) (config : Config K) (bits : config.ward_bits ≤ WARD_BITS_LIMIT) where
  new_ward_sound : (number : ℕ) → IsSoundWard pseudokey_of (new_ward (file_settings config) number)
  new_ward_sound number = record {
    legal = law config.cap (pseudokey_of config.keyer) (ward_prefix config.ward_bits number) (omega (arith, bits, length-bits_of config.ward_bits number));
    since = since_nothing;
    numbered = λ place notice is. cc;
    counted = omega arith;
    notices = λ notice there. absurd (omega (arith, there.1));
    history = tt;
    left = refl;
  }

  pub new_wards_sound : AreSoundWards pseudokey_of (new_world config).wards
  new_wards_sound number ward is =
      let made = mapped_is (new_ward (file_settings config)) (2 ^ config.ward_bits) number ward is in
      subst (IsSoundWard pseudokey_of) (sym made.1) (new_ward_sound number)
