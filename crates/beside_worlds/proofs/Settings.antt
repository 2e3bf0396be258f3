-- A line keeps a world's settings; a world that is taken apart gives the wards of which one can be made anew.
use Rattle.std.proofs.Common.{◌≡◌, ℕ, ◌^◌, List, [], ◌∷◌, length, sym, subst, ap, ◌∙◌}
use Rattle.exh_keyer.specs.declared.any_keyer.AnyKeyer.{AnyKeyer}
use Rattle.exh_keyer.specs.declared.any_keyer.AnyKeyer.TheVariants.{Plain}
use Rattle.exh_keyer.specs.Pseudokey.{any_pseudokey}
use Rattle.exh_script.specs.AnyStart.{LinesKeepSettings}
use Rattle.exh_script.specs.Text.{ScriptWorld, after_line}
use Rattle.exh_ward.specs.WardState.{WardState}
use Rattle.exh_world.specs.NewWorld.{AreWardsFor, settings_of}
use Rattle.exh_world.specs.Sound.{IsSoundWorld}
use Rattle.exh_world.specs.World.{WorldState}
use Rattle.exh_page.specs.declared.config.Config.{Config}
use Rattle.beside_worlds.specs.Anew.{AreItsWards, HasSettings}

pub line_keeps : LinesKeepSettings → (old : ScriptWorld) → IsSoundWorld any_pseudokey old → (line : List ℕ) (new : ScriptWorld)
    → new ≡ after_line old line → HasSettings old → HasSettings new
line_keeps law old sound line new made is = subst HasSettings (sym made) (record {
  cap = ap (λ config. config.cap) kept ∙ is.cap;
  bits = ap (λ config. config.ward_bits) kept ∙ is.bits;
  keyer = ap (λ config. config.keyer) kept ∙ is.keyer;
})
  where
    kept : settings_of (after_line old line) 0 ≡ settings_of old 0
    kept = law old sound (line ∷ []) 0

-- a world with the settings gives its wards
pub wards_given : (world : WorldState AnyKeyer) (wards : List (WardState AnyKeyer)) → HasSettings world
    → length wards ≡ 2 ^ world.ward_bits → ((copies : ℕ) → AreWardsFor (settings_of world copies) wards)
    → AreItsWards wards
wards_given world wards is count each = record {
  one = count ∙ ap (λ bits. 2 ^ bits) is.bits;
  each = λ number ward there. record {
    cap = (each 0 number ward there).cap ∙ is.cap;
    bits = (each 0 number ward there).bits ∙ is.bits;
    number_is = (each 0 number ward there).number_is;
    keyer = (each 0 number ward there).keyer ∙ is.keyer;
  };
}

-- a world of the settings can be made of them
pub wards_taken : (config : Config AnyKeyer) (wards : List (WardState AnyKeyer)) → config.cap ≡ 2 → config.ward_bits ≡ 0
    → config.keyer ≡ Plain → AreItsWards wards → AreWardsFor config wards
wards_taken config wards cap bits keyer are number ward there = record {
  cap = (are.each number ward there).cap ∙ sym cap;
  bits = (are.each number ward there).bits ∙ sym bits;
  number_is = (are.each number ward there).number_is;
  keyer = (are.each number ward there).keyer ∙ sym keyer;
}
