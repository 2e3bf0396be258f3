-- What is left of wards that aren't counted, since memory or a page store refused.
use Rattle.std.specs.Prelude.{◌≡◌, ◌<◌, ℕ, List, Some, slice_get, slice_set}
use Rattle.exh_keyer.specs.declared.any_keyer.AnyKeyer.{AnyKeyer}
use Rattle.exh_ward.specs.WardState.{IsUnchanged, WardState}
use Rattle.exh_ward.specs.declared.ward_fault.WardFault.{WardFault}
use Rattle.exh_ward.specs.declared.ward_fault.WardFault.TheVariants.{Memory, Page}

-- a page is out of reach only where the ward has counted that, and nothing else of it differs
abbrev pub IsWardLeft : WardState AnyKeyer → WardState AnyKeyer → WardFault → Type 0
IsWardLeft old new Page = IsUnchanged old new × (old.failures < new.failures)
IsWardLeft old new Memory = new ≡ old
IsWardLeft old new fault = ⊥

-- one of the wards has counted that
pub record HasCounted (old new : List (WardState AnyKeyer)) : Type 0 where
  pub number : ℕ
  pub before : WardState AnyKeyer
  pub after : WardState AnyKeyer
  pub there : slice_get old number ≡ Some before
  pub is : new ≡ slice_set old number after
  pub left : IsWardLeft before after Page

abbrev pub AreLeft : List (WardState AnyKeyer) → List (WardState AnyKeyer) → WardFault → Type 0
AreLeft old new Page = HasCounted old new
AreLeft old new Memory = new ≡ old
AreLeft old new fault = ⊥
