-- The wards of a page file, as a value.
use Rattle.std.specs.Prelude.{◌≡◌, ℕ, ◌^◌, ◌≤◌, List, length, slice_get, Some}
use Rattle.exh_prefix.specs.declared.prefix.TheConstants.{WARD_BITS_LIMIT}
use Rattle.exh_keyer.specs.declared.any_keyer.AnyKeyer.{AnyKeyer}
use Rattle.exh_page.specs.declared.page.TheConstants.{CAP_LIMIT}
use Rattle.exh_page.specs.declared.file_settings.FileSettings.{FileSettings}
use Rattle.exh_ward.specs.WardState.{WardState}

pub record OpenedState : Type 0 where
  pub cap : ℕ
  pub ward_bits : ℕ
  pub keyer : AnyKeyer
  pub wards : List (WardState AnyKeyer)

-- the settings that its wards have in common, and wards with such settings
abbrev pub settings_in : OpenedState → FileSettings AnyKeyer
settings_in opened = record { cap = opened.cap; ward_bits = opened.ward_bits; keyer = opened.keyer }

abbrev pub in_file : FileSettings AnyKeyer → List (WardState AnyKeyer) → OpenedState
in_file settings wards = record { cap = settings.cap; ward_bits = settings.ward_bits; keyer = settings.keyer; wards = wards }

-- a ward that is the file's of a number
pub record IsWardOf (opened : OpenedState) (number : ℕ) (ward : WardState AnyKeyer) : Type 0 where
  pub cap : ward.cap ≡ opened.cap
  pub bits : ward.ward_bits ≡ opened.ward_bits
  pub number_is : ward.number ≡ number
  pub keyer : ward.keyer ≡ opened.keyer

-- one for each number, in order, and the file's settings in their ranges
pub record AreWardsOf (opened : OpenedState) : Type 0 where
  pub some : 1 ≤ opened.cap
  pub most : opened.cap ≤ CAP_LIMIT
  pub bits : opened.ward_bits ≤ WARD_BITS_LIMIT
  pub count : length opened.wards ≡ 2 ^ opened.ward_bits
  pub each : (number : ℕ) (ward : WardState AnyKeyer) → slice_get opened.wards number ≡ Some ward → IsWardOf opened number ward
