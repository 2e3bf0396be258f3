-- What is known of a refusal that comes from a ward behind its lock.
use Rattle.std.specs.Prelude.{◌≡◌, ⊤, ℕ, List, Err}
use Rattle.exh_ward.specs.WardFault.{CountsFailures}
use Rattle.exh_ward.specs.WardState.{WardState, IsSoundWard, IsUnchanged}
use Rattle.exh_ward.specs.declared.ward_fault.WardFault.{WardFault}
use Rattle.exh_walk.specs.WardRun.{WardEvent, HopAt, SplitAt}

-- some sound ward was refused so, and nothing but its count of failures differs afterwards, which rose where a page was out of reach, and only there; and a
-- store of the wards' kind has counted as many
pub record IsSomeWardsFault {P K : Type 0} (failures : P → ℕ) (pseudokey_of : K → List ℕ → ℕ) (fault : WardFault) : Type 0 where
  pub old : WardState K
  pub new : WardState K
  pub sound : IsSoundWard pseudokey_of old
  pub unchanged : IsUnchanged old new
  pub counts : CountsFailures {T = Unit {0}} (Err fault) old.failures new.failures
  pub store : P
  pub counted : failures store ≡ new.failures

-- so was a hop or a split, if it was refused
abbrev pub IsRefusedSo : {P K : Type 0} → (P → ℕ) → (K → List ℕ → ℕ) → WardEvent → Type 0
IsRefusedSo failures pseudokey_of (HopAt at client call (Err fault)) = IsSomeWardsFault failures pseudokey_of fault
IsRefusedSo failures pseudokey_of (SplitAt at (Err fault)) = IsSomeWardsFault failures pseudokey_of fault
IsRefusedSo failures pseudokey_of event = ⊤
