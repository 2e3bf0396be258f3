-- The states of a page file that the commits of a log made, one of the other.
use Rattle.std.specs.Prelude.{◌≡◌, ◌⊎◌, ℕ, zero, suc, ◌+◌, ◌<◌, ◌==◌, if◌then◌else◌, List, [], ◌∷◌, ◌++◌, length, slice_index}
use Rattle.sqlite_wal.specs.Format.{be64, page_number, content}
use Rattle.sqlite_wal.specs.Recovery.{frame, Replays}
use Rattle.exh_codec.specs.declared.block.TheConstants.{BLOCK_LEN}

-- the stamp in a header's block, and the one before
abbrev pub stamp_in : List ℕ → ℕ
stamp_in block = be64 block 84

abbrev pub before_in : List ℕ → ℕ
before_in block = be64 block 92

-- what a field says in the block of a frame, if that is of page 1
abbrev pub field_at : (List ℕ → ℕ) → List ℕ → ℕ → List ℕ
field_at field log i = if page_number (frame BLOCK_LEN log i) == 1 then field (content (frame BLOCK_LEN log i)) ∷ [] else []

-- the same of the first so many frames, in their order
abbrev pub fields_of : (List ℕ → ℕ) → List ℕ → ℕ → List ℕ
fields_of field log zero = []
fields_of field log (suc i) = fields_of field log i ++ field_at field log i

-- each state but the first has the stamp of the one in front of it as its stamp before
abbrev pub AreInLine : List ℕ → List ℕ → Type 0
AreInLine stamps befores = (i : ℕ) → i + 1 < length stamps → slice_index befores (i + 1) ≡ slice_index stamps i

-- the stamp is that of one of them, or of the one from which the first came
abbrev pub IsOfLine : List ℕ → List ℕ → ℕ → Type 0
IsOfLine stamps befores own = ((i : ℕ) × (i < length stamps) × (slice_index stamps i ≡ own)) ⊎ ((0 < length befores) × (slice_index befores 0 ≡ own))

-- the two stamps are those of one of them, or the first is the one before the first of them
abbrev pub IsOfState : List ℕ → List ℕ → ℕ → ℕ → Type 0
IsOfState stamps befores stamp before = ((i : ℕ) × (i < length stamps) × (slice_index stamps i ≡ stamp) × (slice_index befores i ≡ before)) ⊎ ((0 < length befores) × (slice_index befores 0 ≡ stamp))

-- this holds of the stamps of the states that the commits of a log made, and of the stamps before
pub record IsOfStates (log : List ℕ) (holds : List ℕ → List ℕ → Type 0) : Type 0 where
  pub long : 56 < length log
  pub frames : ℕ
  pub replays : Replays BLOCK_LEN log frames
  pub is : holds (fields_of stamp_in log frames) (fields_of before_in log frames)

-- the commits of a log made states of the page file that has this stamp without it
abbrev pub IsLineOf : List ℕ → ℕ → Type 0
IsLineOf log own = IsOfStates log (λ stamps befores. AreInLine stamps befores × IsOfLine stamps befores own)

-- the block, whatever else is in it, has at a header's places the stamps of a state that a commit of the log made, or the stamp
-- of the one from which the first came
abbrev pub IsBlockOf : List ℕ → List ℕ → Type 0
IsBlockOf log block = IsOfStates log (λ stamps befores. IsOfState stamps befores (stamp_in block) (before_in block))

-- ---- what was read

-- these are the stamps of the states that the commits of a log made, and the stamps before
pub record AreStatesOf (log stamps befores : List ℕ) : Type 0 where
  pub long : 56 < length log
  pub frames : ℕ
  pub replays : Replays BLOCK_LEN log frames
  pub stamps_are : stamps ≡ fields_of stamp_in log frames
  pub befores_are : befores ≡ fields_of before_in log frames

-- recovery takes no commit of the log
abbrev pub HasNoStates : List ℕ → Type 0
HasNoStates log = (frames : ℕ) → 56 < length log → Replays BLOCK_LEN log frames → ⊥
