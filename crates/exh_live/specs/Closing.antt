-- What closing a live file gives, and where it is refused.
use Rattle.std.specs.Prelude.{◌≡◌, ◌≢◌, ℕ, ◌^◌, List, length, map, slice_get, Some, sum_by}
use Rattle.exh_calls.specs.Diary.{DiaryState}
use Rattle.exh_ward.specs.WardState.{WardState}
use Rattle.exh_live.specs.LiveFile.{LiveState, SeatState}
use Rattle.exh_live.specs.declared.close.CloseFault.{CloseFault}
use Rattle.exh_live.specs.declared.close.CloseFault.TheVariants.{Seats, Memory}

-- how many entries the wards' journals have together
abbrev pub entries_made : {K : Type 0} → List (WardState K) → ℕ
entries_made wards = sum_by (λ ward. length ward.journal) wards

-- how many answers the callers of the diaries got together
abbrev pub answers_given : List DiaryState → ℕ
answers_given diaries = sum_by (λ diary. length diary.entries) diaries

abbrev pub seat_of : DiaryState → SeatState
seat_of diary = record { client = diary.client; entries = diary.entries }

-- the seats' diaries, in order
abbrev pub AreDiariesOf : List SeatState → List DiaryState → Type 0
AreDiariesOf seats diaries = map seat_of diaries ≡ seats

-- at each place is the ward of that number
abbrev pub AreInOrder : {K : Type 0} → List (WardState K) → Type 0
AreInOrder {K} wards = (number : ℕ) (ward : WardState K) → slice_get wards number ≡ Some ward → ward.number ≡ number

-- all seats of the file are there; there are as many wards as it had, in the order of their numbers, and each seat's diary; and the journals together
-- have as many entries as the callers got answers
pub record IsClosed {K : Type 0} (file : LiveState K) (seats : List SeatState) (wards : List (WardState K)) (diaries : List DiaryState) : Type 0 where
  pub all : length seats ≡ file.seats
  pub count : length wards ≡ 2 ^ file.ward_bits
  pub order : AreInOrder wards
  pub diaries_are : AreDiariesOf seats diaries
  pub equally_many : entries_made wards ≡ answers_given diaries

-- a seat is missing, or each is there and memory was refused
abbrev pub IsCloseFault : {K : Type 0} → LiveState K → List SeatState → CloseFault → Type 0
IsCloseFault file seats Seats = length seats ≢ file.seats
IsCloseFault file seats Memory = length seats ≡ file.seats

abbrev pub close_fault_number : CloseFault → ℕ
close_fault_number Seats = 52
close_fault_number Memory = 10
