-- The calls of a storm's callers.
use Rattle.std.specs.Prelude.{◌≡◌, ℕ, ◌+◌, ◌*◌, ◌%◌, ◌==◌, if◌then◌else◌, List, length, slice_get, Some, decimal, All}
use Rattle.exh_calls.specs.declared.call.Call.{Call}
use Rattle.exh_calls.specs.declared.call.Call.TheVariants.{Get, Put, Del}
use Rattle.exh_calls.specs.Diary.{DiaryState}
use Rattle.exh_calls.specs.declared.diary_entry.DiaryEntry.{DiaryEntry}
use Rattle.exh_live.specs.Closing.{seat_of}
use Rattle.exh_live.specs.LiveFile.{SeatState}

-- the key of a caller's call of this number
abbrev pub storm_key : ℕ → ℕ → List ℕ
storm_key caller number = decimal ((7 * caller + 13 * number) % 50)

-- a caller's call of this number, from 1 on: by turns a put of the number's text, a get and a delete
abbrev pub storm_call : ℕ → ℕ → Call
storm_call caller number =
    if number % 3 == 1 then Put (storm_key caller number) (decimal number)
    else if number % 3 == 2 then Get (storm_key caller number)
    else Del (storm_key caller number)

-- a caller was answered its first so many calls, in order
abbrev pub AreStormCalls : ℕ → ℕ → List DiaryEntry → Type 0
AreStormCalls caller count entries =
    (length entries ≡ count) × ((place : ℕ) (entry : DiaryEntry) → slice_get entries place ≡ Some entry → entry.call ≡ storm_call caller (place + 1))

-- the seat of a caller that was answered so many calls, all of them
abbrev pub IsServed : ℕ → SeatState → Type 0
IsServed count seat = AreStormCalls seat.client count seat.entries

-- the diaries of callers each of which was so
abbrev pub AreServed : ℕ → List DiaryState → Type 0
AreServed count diaries = All (λ diary. IsServed count (seat_of diary)) diaries
