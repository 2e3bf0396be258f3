-- What contracts see of a live file and of its seats, and the wards that it begins with.
use Rattle.std.specs.Prelude.{◌≡◌, ⊤, ℕ, ◌+◌, ◌^◌, List, [], ◌∷◌, length, slice_get, Some}
use Rattle.exh_page.specs.declared.file_settings.FileSettings.{FileSettings}
use Rattle.exh_calls.specs.Diary.{DiaryState}
use Rattle.exh_calls.specs.declared.diary_entry.DiaryEntry.{DiaryEntry}
use Rattle.exh_ward.specs.WardState.{WardState}

-- a page has at most cap records; the file is cut into 2^ward_bits wards, has this keyer, and gave so many seats
pub record LiveState (K : Type 0) : Type 0 where
  pub cap : ℕ
  pub ward_bits : ℕ
  pub keyer : K
  pub seats : ℕ

-- a file of these settings that gave no seat yet
abbrev pub without_seats : {K : Type 0} → FileSettings K → LiveState K
without_seats settings = record { cap = settings.cap; ward_bits = settings.ward_bits; keyer = settings.keyer; seats = 0 }

-- a caller: its number, and the calls that it was answered, in order
pub record SeatState : Type 0 where
  pub client : ℕ
  pub entries : List DiaryEntry

-- the diary has the caller's number and answers
abbrev pub IsDiaryOf : SeatState → DiaryState → Type 0
IsDiaryOf seat diary = (diary.client ≡ seat.client) × (diary.entries ≡ seat.entries)

-- ---- the wards that a live file begins with

-- a ward of the cap, the ward bits and the keyer, at the place of its number, that answered nothing
pub record IsNewWardOf {K : Type 0} (cap ward_bits : ℕ) (keyer : K) (number : ℕ) (ward : WardState K) : Type 0 where
  pub cap_is : ward.cap ≡ cap
  pub bits : ward.ward_bits ≡ ward_bits
  pub number_is : ward.number ≡ number
  pub keyer_is : ward.keyer ≡ keyer
  pub empty : ward.journal ≡ []

-- of a file of these settings: one for each number, in order
pub record AreNewWardsOf {K : Type 0} (settings : FileSettings K) (wards : List (WardState K)) : Type 0 where
  pub count : length wards ≡ 2 ^ settings.ward_bits
  pub each : (number : ℕ) (ward : WardState K) → slice_get wards number ≡ Some ward → IsNewWardOf settings.cap settings.ward_bits settings.keyer number ward

-- of some file, whose keyer hashes so
abbrev pub AreNewWards : {K : Type 0} → (K → List ℕ → ℕ) → (List ℕ → ℕ) → List (WardState K) → Type 0
AreNewWards {K} pseudokey_of hashing wards = (settings : FileSettings K) × AreNewWardsOf settings wards × (hashing ≡ pseudokey_of settings.keyer)

-- the file has the settings of these wards, and gave no seat yet
abbrev pub IsNewFileOf : {K : Type 0} → List (WardState K) → LiveState K → Type 0
IsNewFileOf {K} wards file = (settings : FileSettings K) → AreNewWardsOf settings wards → file ≡ without_seats settings

-- each answered nothing, turns keys into these pseudokeys, and stands at the place of its number, from a number on
abbrev pub AreToBeTallied : {K : Type 0} → (K → List ℕ → ℕ) → (List ℕ → ℕ) → ℕ → List (WardState K) → Type 0
AreToBeTallied pseudokey_of pseudo number [] = ⊤
AreToBeTallied pseudokey_of pseudo number (ward ∷ wards) =
    (ward.journal ≡ []) × (pseudokey_of ward.keyer ≡ pseudo) × (ward.number ≡ number) × AreToBeTallied pseudokey_of pseudo (number + 1) wards
