use Rattle.std.proofs.Common.{◌≡◌, ℕ, ◌<◌, slice_get, Some}
use Rattle.exh_keyer.specs.declared.any_keyer.AnyKeyer.{AnyKeyer}
use Rattle.exh_ward.specs.WardState.{WardState}
use Rattle.exh_file.specs.Opened.{IsWardOf, in_file}
use Rattle.exh_file.proofs.opened.are_wards_of.Given as goal

-- the wards so far are the file's
abbrev pub invariant-loop-number : goal.invariant-loop-number
invariant-loop-number g l = (number : ℕ) (ward : WardState AnyKeyer) → number < l.number → slice_get l.wards number ≡ Some ward
    → IsWardOf (in_file l.settings l.wards) number ward
