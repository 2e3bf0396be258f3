use Rattle.std.proofs.Common.{◌≡◌, ◌*◌, ◌≤◌, ◌^◌, length, take}
use Rattle.std.specs.Prelude.{sum_by}
use Rattle.exh_calls.specs.Diary.{DiaryState}
use Rattle.exh_calls.proofs.settlement.answers.Given as goal

-- the entries of the diaries so far
abbrev pub invariant-loop-diary : goal.invariant-loop-diary
invariant-loop-diary l = (l.answers ≡ sum_by (λ (diary : DiaryState). length diary.entries) (take l.diary-index l.diaries)) × (l.answers ≤ l.diary-index * 2 ^ 64)
