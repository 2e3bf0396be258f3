-- Faults of a load.
use Rattle.std.specs.Prelude.{◌≡◌, ◌<◌, ◌≤◌, ℕ, List, slice_get, slice_set, Option, None, Some, Result, IfErr}
use Rattle.exh_keyer.specs.declared.any_keyer.AnyKeyer.{AnyKeyer}
use Rattle.exh_ward.specs.WardState.{WardState}
use Rattle.exh_file.specs.FileChange.{ward_in}
use Rattle.exh_file.specs.Opened.{OpenedState}
use Rattle.exh_ward.specs.declared.ward_fault.WardFault.{WardFault}
use Rattle.exh_ward.specs.declared.ward_fault.WardFault.TheVariants.{Page as OutOfReach}
use Rattle.exh_load.specs.declared.load_fault.LoadFault.{LoadFault}
use Rattle.exh_load.specs.declared.load_fault.LoadFault.TheVariants.{Memory, Page}

-- the fault that a refused put comes to
abbrev pub load_fault_of : WardFault → LoadFault
load_fault_of OutOfReach = Page
load_fault_of fault = Memory

-- a store of these failures has counted more than a ward of the file had
abbrev pub HasCounted : {P : Type 0} → (P → ℕ) → OpenedState → Type 0
HasCounted {P} failures file = (store : P) × (number : ℕ) × (ward : WardState AnyKeyer) × (slice_get file.wards number ≡ Some ward) × (ward.failures < failures store)

-- so of the file that a load begins with; where that is new, the store has counted one
abbrev pub HasCountedFrom : {P : Type 0} → (P → ℕ) → Option OpenedState → Type 0
HasCountedFrom {P} failures None = (store : P) × (0 < failures store)
HasCountedFrom {P} failures (Some file) = HasCounted {P = P} failures file

-- of a put in a file a page is out of reach only where the ward of the key has counted it: nothing else of the file has changed, the ward's count has risen, and a
-- store has counted as many
pub record HasCountedIn {P : Type 0} (failures : P → ℕ) (old : OpenedState) (key : List ℕ) (new : OpenedState) : Type 0 where
  pub ward : WardState AnyKeyer
  pub after : WardState AnyKeyer
  pub there : slice_get old.wards (ward_in old key) ≡ Some ward
  pub others : new ≡ record old { wards = slice_set old.wards (ward_in old key) after }
  pub more : ward.failures < after.failures
  pub store : P
  pub counted : failures store ≡ after.failures

-- the count of no ward is less than it was
abbrev pub FallsNowhere : OpenedState → OpenedState → Type 0
FallsNowhere old new = (number : ℕ) (after : WardState AnyKeyer) → slice_get new.wards number ≡ Some after → (ward : WardState AnyKeyer) × (slice_get old.wards number ≡ Some ward) × (ward.failures ≤ after.failures)

abbrev pub IsLoadCounted : {P T : Type 0} → (P → ℕ) → Option OpenedState → Result T LoadFault → Type 0
IsLoadCounted failures from result = IfErr result (λ fault. fault ≡ Page → HasCountedFrom failures from)

-- ---- of private functions

-- the file is the one that was opened; where none was, no ward has counted a failure
abbrev pub BeginsFrom : Option OpenedState → OpenedState → Type 0
BeginsFrom None file = (number : ℕ) (ward : WardState AnyKeyer) → slice_get file.wards number ≡ Some ward → ward.failures ≡ 0
BeginsFrom (Some opened) file = file ≡ opened
