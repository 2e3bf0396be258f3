-- The one failure of a store that fails on purpose, over a store that has a count of its own.
use Rattle.std.specs.Prelude.{◌≡◌, ◌⊎◌, ℕ, zero, suc, ◌+◌, ◌-◌, ◌^◌, ◌<◌, Bool, cond, false, ltb, min, nat_le, IsTrue, Option, Some, None, Result, Ok, Err}
use Rattle.exh_frames.specs.declared.failing_pages.Failure.{Failure}
use Rattle.exh_frames.specs.declared.failing_pages.Failure.TheVariants.{After, Past, Never}
use Rattle.exh_frames.specs.declared.pages_call.PagesCall.{PagesCall}
use Rattle.exh_stores.specs.declared.pages_fault.PagesFault.{PagesFault}
use Rattle.exh_stores.specs.declared.pages_fault.PagesFault.TheVariants.{Memory, Page as OutOfReach}

-- the greatest count of failures
abbrev pub greatest : ℕ
greatest = 2 ^ 64 - 1

-- the call of a place (1, 2, ..) fails, for 0 none
abbrev pub failure_at : ℕ → Failure
failure_at zero = Never
failure_at (suc before) = After before

-- whether the next call fails: where the count of the store inside is the greatest none does
abbrev pub is_due : ℕ → Failure → Bool
is_due count (After zero) = ltb count greatest
is_due count (After (suc before)) = false
is_due count (Past failed) = false
is_due count Never = false

-- what is to come after one call more
abbrev pub after_call : ℕ → PagesCall → Failure → Failure
after_call count call (After zero) = cond (ltb count greatest) (Past call) (After zero)
after_call count call (After (suc before)) = After before
after_call count call (Past failed) = Past failed
after_call count call Never = Never

-- the call that has failed
abbrev pub failed_call : Failure → Option PagesCall
failed_call (After before) = None
failed_call (Past failed) = Some failed
failed_call Never = None

-- how many calls have failed, the store's own failure and those of the store inside; no more than the greatest
abbrev pub count_with : Failure → ℕ → ℕ
count_with (After before) count = count
count_with (Past failed) count = min (count + 1) greatest
count_with Never count = count

-- whether the count, in which the store's own failure is, is the greatest, so that it can't rise
abbrev pub is_spent : Failure → ℕ → Bool
is_spent (After before) count = false
is_spent (Past failed) count = nat_le greatest (count + 1)
is_spent Never count = false

-- what becomes of a refusal of the store inside: a page fault by which the count can't rise is want of memory
abbrev pub fault_by : Bool → PagesFault → PagesFault
fault_by spent Memory = Memory
fault_by spent OutOfReach = cond spent Memory OutOfReach

-- what a call answers that doesn't fail by itself, with the count of the store inside before and after: a page fault is one of the store inside, which has counted it; where the count can't rise any more, so may want of memory be
abbrev pub IsOfInner : {T : Type 0} → Result T PagesFault → Bool → ℕ → ℕ → Type 0
IsOfInner (Ok value) spent old new = new ≡ old
IsOfInner (Err Memory) spent old new = (new ≡ old) ⊎ (IsTrue spent × (old < new))
IsOfInner (Err OutOfReach) spent old new = old < new

-- what is seen of the store
pub record FailingStore (S : Type 0) : Type 0 where
  pub inner : S
  pub failure : Failure
