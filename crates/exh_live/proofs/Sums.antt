-- What callers' diaries have that were answered all their calls, and how many answers.
use Rattle.std.proofs.Common.{◌≡◌, ℕ, ◌+◌, ◌*◌, ◌^◌, ◌<◌, ◌≤◌, List, [], ◌∷◌, length, map, Result, Ok, Err, IfOk, ap, sym, ◌∙◌, subst, arith}
use Rattle.std.specs.Prelude.{All}
use Rattle.std.proofs.lemmas.List.{length-map}
use Rattle.std.proofs.lemmas.List.Elements.{All-nil, All-cons, All-head, All-tail, All-weaker}
use Rattle.std.proofs.lemmas.List.Sums.{sum_by-cons}
use Rattle.std.proofs.lemmas.Nat.{mul-le}
use Rattle.exh_calls.specs.Diary.{DiaryState}
use Rattle.exh_calls.specs.Settled.{answer_count}
use Rattle.exh_live.specs.Closing.{AreDiariesOf, seat_of}
use Rattle.exh_live.specs.LiveFile.{SeatState}
use Rattle.exh_live.specs.StormCalls.{AreServed, IsServed}
use Rattle.exh_live.specs.declared.fault.StormFault.{StormFault}

-- the seat was answered so many calls
abbrev IsAnswered : ℕ → SeatState → Type 0
IsAnswered calls seat = length seat.entries ≡ calls

sum_answered : (calls : ℕ) (diaries : List DiaryState) → All (IsAnswered calls) (map seat_of diaries) → answer_count diaries ≡ length diaries * calls
sum_answered calls [] all = omega arith
sum_answered calls (diary ∷ diaries) all =
    let head : length diary.entries ≡ calls = All-head (IsAnswered calls) (seat_of diary) (map seat_of diaries) all in
    let rest = sum_answered calls diaries (All-tail (IsAnswered calls) (seat_of diary) (map seat_of diaries) all) in
    let both : answer_count (diary ∷ diaries) ≡ length diary.entries + answer_count diaries = sum_by-cons (λ (d : DiaryState). length d.entries) diary diaries in
    both ∙ ap (λ n. n + answer_count diaries) head ∙ ap (λ n. calls + n) rest ∙ omega arith

all_answered : (calls : ℕ) (diaries : List DiaryState) (seats : List SeatState) → AreDiariesOf seats diaries → All (IsAnswered calls) seats → answer_count diaries ≡ length seats * calls
all_answered calls diaries seats are all =
    sum_answered calls diaries (subst (All (IsAnswered calls)) (sym are) all) ∙ ap (λ n. n * calls) (sym (length-map diaries seat_of) ∙ ap length are)

-- where so many callers' seats were answered so many calls each
pub answered : (callers calls : ℕ) (diaries : List DiaryState) (seats : List SeatState) → AreDiariesOf seats diaries → All (IsServed calls) seats → length seats ≡ callers → answer_count diaries ≡ callers * calls
answered callers calls diaries seats are all count = all_answered calls diaries seats are (All-weaker (IsServed calls) (IsAnswered calls) (λ seat served. served.0) seats all) ∙ ap (λ n. n * calls) count

served_out : (calls : ℕ) (diaries : List DiaryState) → All (IsServed calls) (map seat_of diaries) → AreServed calls diaries
served_out calls [] all = All-nil (λ (diary : DiaryState). IsServed calls (seat_of diary))
served_out calls (diary ∷ diaries) all =
    All-cons (λ (d : DiaryState). IsServed calls (seat_of d)) diary diaries (All-head (IsServed calls) (seat_of diary) (map seat_of diaries) all)
    (served_out calls diaries (All-tail (IsServed calls) (seat_of diary) (map seat_of diaries) all))

-- the diaries have what the seats were answered
pub served : (calls : ℕ) (diaries : List DiaryState) (seats : List SeatState) → AreDiariesOf seats diaries → All (IsServed calls) seats → AreServed calls diaries
served calls diaries seats are all = served_out calls diaries (subst (All (IsServed calls)) (sym are) all)

pub few_answered : (callers calls count : ℕ) → callers ≤ 16 → calls ≤ 10000 → count ≡ callers * calls → count < 2 ^ 64
few_answered callers calls count few short is = omega (arith, mul-le callers calls 16 10000 few short, is)

pub counted : (result : Result ℕ StormFault) (count want : ℕ) → IfOk result (λ n. n ≡ count) → count ≡ want → IfOk result (λ n. n ≡ want)
counted (Ok n) count want is same = is ∙ same
counted (Err fault) count want is same = tt
