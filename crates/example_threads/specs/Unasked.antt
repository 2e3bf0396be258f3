-- Wards of which nothing was asked yet.
use Rattle.std.specs.Prelude.{◌≡◌, ℕ, [], slice_get, Some}
use Rattle.exh_keyer.specs.declared.any_keyer.AnyKeyer.{AnyKeyer}
use Rattle.exh_system.specs.Opened.{OpenedState}
use Rattle.exh_ward.specs.WardState.{WardState}

-- each ward's journal is empty
abbrev pub AreUnasked : OpenedState → Type 0
AreUnasked opened = (number : ℕ) (ward : WardState AnyKeyer) → slice_get opened.wards number ≡ Some ward → ward.journal ≡ []
