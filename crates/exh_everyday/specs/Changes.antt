-- What is answered to a change of one key.
use Rattle.std.specs.Prelude.{◌≡◌, ℕ, List, Option}
use Rattle.exh_transfer.specs.Opened.{OpenedState}
use Rattle.exh_transfer.specs.FileMap.{IsPut, IsPutNew, IsRemoved, IsReplaced, IsSwap}
use Rattle.exh_transfer.specs.declared.Put.{Put as PutSaid}
use Rattle.exh_transfer.specs.declared.PutNew.{PutNew as PutNewSaid}
use Rattle.exh_transfer.specs.declared.Swap.{Swap as SwapSaid}
use Rattle.exh_everyday.specs.declared.answer.Answer.{Answer}
use Rattle.exh_everyday.specs.declared.change.Change.{Change}
use Rattle.exh_everyday.specs.declared.change.Change.TheVariants.{Put, PutNew, Replace, Remove, Swap}
use Rattle.exh_everyday.specs.Answers.{put_answer, put_new_answer, swap_answer, was_answer}

-- an answer of the library to this change
abbrev pub IsAnswerTo : Change → Answer → Type 0
IsAnswerTo (Put key value) answer = (put : PutSaid) × (answer ≡ put_answer put)
IsAnswerTo (PutNew key value) answer = (put : PutNewSaid) × (answer ≡ put_new_answer put)
IsAnswerTo (Replace key value) answer = (was : Option (List ℕ)) × (answer ≡ was_answer was)
IsAnswerTo (Remove key) answer = (was : Option (List ℕ)) × (answer ≡ was_answer was)
IsAnswerTo (Swap key old new) answer = (swap : SwapSaid) × (answer ≡ swap_answer swap)

-- the answer of the one map of a store, which has another one then
abbrev pub IsAnswerOf : OpenedState → Change → Answer → OpenedState → Type 0
IsAnswerOf before (Put key value) answer after = (put : PutSaid) × (IsPut before key value put after × (answer ≡ put_answer put))
IsAnswerOf before (PutNew key value) answer after = (put : PutNewSaid) × (IsPutNew before key value put after × (answer ≡ put_new_answer put))
IsAnswerOf before (Replace key value) answer after = (was : Option (List ℕ)) × (IsReplaced before key value was after × (answer ≡ was_answer was))
IsAnswerOf before (Remove key) answer after = (was : Option (List ℕ)) × (IsRemoved before key was after × (answer ≡ was_answer was))
IsAnswerOf before (Swap key old new) answer after = (swap : SwapSaid) × (IsSwap before key old new swap after × (answer ≡ swap_answer swap))
