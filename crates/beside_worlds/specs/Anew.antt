-- What the run of worlds made anew asks of its worlds, and of the wards of which they are made.
use Rattle.std.specs.Prelude.{◌≡◌, ℕ, List, length, slice_get, Some}
use Rattle.exh_keyer.specs.declared.any_keyer.AnyKeyer.{AnyKeyer}
use Rattle.exh_keyer.specs.declared.any_keyer.AnyKeyer.TheVariants.{Plain}
use Rattle.exh_ward.specs.WardState.{WardState}
use Rattle.exh_world.specs.World.{WorldState}

-- a file of one ward, of pages of two records and of keyer plain
pub record HasSettings (world : WorldState AnyKeyer) : Type 0 where
  pub cap : world.cap ≡ 2
  pub bits : world.ward_bits ≡ 0
  pub keyer : world.keyer ≡ Plain

-- the ward of such a file, and no other
pub record IsItsWard (number : ℕ) (ward : WardState AnyKeyer) : Type 0 where
  pub cap : ward.cap ≡ 2
  pub bits : ward.ward_bits ≡ 0
  pub number_is : ward.number ≡ number
  pub keyer : ward.keyer ≡ Plain

pub record AreItsWards (wards : List (WardState AnyKeyer)) : Type 0 where
  pub one : length wards ≡ 1
  pub each : (number : ℕ) (ward : WardState AnyKeyer) → slice_get wards number ≡ Some ward → IsItsWard number ward
