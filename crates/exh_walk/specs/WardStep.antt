-- What a ward by itself keeps in each step: the contracts of its hop and its split.
use Rattle.std.specs.Prelude.{⊤, ℕ, List, Err}
use Rattle.exh_ward.specs.WardFault.{CountsFailures, IsStoreFault, SplitRefused}
use Rattle.exh_ward.specs.WardState.{WardState, IsSoundWard}
use Rattle.exh_walk.specs.WardRun.{WardEvent, HopAt, SplitAt, MergeAt, WardStep}

-- where a refusal comes
abbrev pub IsRefusal : {K : Type 0} → WardState K → WardEvent → Type 0
IsRefusal old (HopAt at client call (Err fault)) = IsStoreFault fault
IsRefusal old (SplitAt at (Err fault)) = SplitRefused old.cap old.pages at fault
IsRefusal old event = ⊤

-- the count of failures rises at a page fault, and only there
abbrev pub CountsEvent : WardEvent → ℕ → ℕ → Type 0
CountsEvent (HopAt at client call result) old new = CountsFailures result old new
CountsEvent (SplitAt at result) old new = CountsFailures result old new
CountsEvent (MergeAt at result) old new = CountsFailures result old new

pub record IsWardStep {K : Type 0} (pseudokey_of : K → List ℕ → ℕ) (old : WardState K) (event : WardEvent) (new : WardState K) : Type 0 where
  pub step : WardStep pseudokey_of old event new
  pub refused : IsRefusal old event
  pub failures : CountsEvent event old.failures new.failures
  pub sound : IsSoundWard pseudokey_of new
