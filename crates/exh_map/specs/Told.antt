-- What an error tells of the file, by the refusal of a lower crate that it comes of.
use Rattle.std.specs.Prelude.{⊤}
use Rattle.exh_in_place.specs.DirectLaws.{IsOtherFault}
use Rattle.exh_in_place.specs.declared.DirectFault.{DirectFault}
use Rattle.exh_in_place.specs.Refusals.{IsOfState, MayBeSaved, TellsOfContent, TellsOfState}
use Rattle.exh_in_place.specs.declared.refused.Refused.{Refused}
use Rattle.exh_in_place.specs.declared.InPlaceFault.{InPlaceFault}
use Rattle.exh_map.specs.declared.store_error.StoreError.{StoreError}
use Rattle.exh_map.specs.declared.store_error.StoreError.TheVariants.{Astray, Changed, Damaged, Illegal, NoHeader, NoPageFile, OldVersion, Trailing, Truncated, UnknownVersion, Unsure}

-- the change may have been saved, or was
abbrev pub IsUnsure : StoreError → Type 0
IsUnsure (Unsure refused) = ⊤
IsUnsure fault = ⊥

-- the file is another one, or in another state
abbrev pub IsChanged : StoreError → Type 0
IsChanged Changed = ⊤
IsChanged fault = ⊥

-- it is no legal page file of version 3
abbrev pub IsOfContent : StoreError → Type 0
IsOfContent NoPageFile = ⊤
IsOfContent NoHeader = ⊤
IsOfContent UnknownVersion = ⊤
IsOfContent OldVersion = ⊤
IsOfContent (Damaged block fault) = ⊤
IsOfContent Truncated = ⊤
IsOfContent Trailing = ⊤
IsOfContent (Illegal reason) = ⊤
IsOfContent Astray = ⊤
IsOfContent fault = ⊥

-- memory, the system or what stands beside the file is the cause, and nothing was changed
pub record IsPlain (fault : StoreError) : Type 0 where
  pub sure : IsUnsure fault → ⊥
  pub same : IsChanged fault → ⊥
  pub whole : IsOfContent fault → ⊥

-- ---- by the refusal

-- a file that couldn't be read, or for want of memory, isn't told to be wrong
pub record IsOfReading (cause : DirectFault) (fault : StoreError) : Type 0 where
  pub sure : IsUnsure fault → ⊥
  pub same : IsChanged fault → ⊥
  pub whole : IsOtherFault cause → IsOfContent fault → ⊥

pub record IsOfUnfit (cause : InPlaceFault) (fault : StoreError) : Type 0 where
  pub sure : IsUnsure fault → ⊥
  pub state : IsChanged fault → IsOfState cause
  pub whole : IsOfContent fault → ⊥

-- a change that may be saved is told as such, and no other; the file is told to be another one, in another state or wrong only
-- where the refusal tells so
pub record IsOfRefusal (refused : Refused) (fault : StoreError) : Type 0 where
  pub unsure : MayBeSaved refused → IsUnsure fault
  pub sure : IsUnsure fault → MayBeSaved refused
  pub state : IsChanged fault → TellsOfState refused
  pub whole : IsOfContent fault → TellsOfContent refused
