-- Calls as one change of the blocks of a page file.
use Rattle.std.specs.Prelude.{◌≡◌, Bool, ℕ, List, [], IsTrue}
use Rattle.exh_calls.specs.declared.call.Call.{Call}
use Rattle.exh_cells.specs.PlacedFile.{PlacedFile}
use Rattle.exh_change.specs.Batch.{map_then_all, replies_in}
use Rattle.exh_paged.specs.declared.answered.Answered.{Answered}
use Rattle.exh_paged.specs.CallChange.{HasState, IsCalled, IsOldOrCalled}

-- the replies are the calls', and the stamp is the file's
pub record IsAnswerOfAll (file : PlacedFile) (calls : List Call) (stamp : ℕ) (answered : Answered) : Type 0 where
  pub replies_are : answered.replies.items ≡ replies_in file calls
  pub stamp_is : answered.stamp ≡ stamp

-- the bytes after all calls; without a call the old ones
abbrev pub AreCalled : Bool → PlacedFile → List Call → ℕ → List ℕ → List ℕ → Type 0
AreCalled truthful file calls stamp old new = IsCalled truthful (calls ≡ []) file (map_then_all file calls) stamp old new

-- and the replies are the calls', and the stamp is the file's
pub record AreReplied (truthful : Bool) (file : PlacedFile) (calls : List Call) (stamp : ℕ) (answered : Answered) (old new : List ℕ) : Type 0 where
  pub called : AreCalled truthful file calls stamp old new
  pub replies_are : IsTrue truthful → answered.replies.items ≡ replies_in file calls
  pub state : IsTrue truthful → HasState new (map_then_all file calls) answered.stamp

abbrev pub AreOldOrCalled : Bool → PlacedFile → List Call → ℕ → List ℕ → List ℕ → Type 0
AreOldOrCalled truthful file calls stamp old new = IsOldOrCalled truthful (calls ≡ []) file (map_then_all file calls) stamp old new
