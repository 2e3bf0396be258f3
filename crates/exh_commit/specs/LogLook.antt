-- What may stand at a log's name where the log is opened for writing.
use Rattle.std.specs.Prelude.{◌≡◌, ◌≢◌, ◌⊎◌, ℕ, ◌<◌, ◌≤◌, List, [], ◌∷◌, length, slice_index, take, codes}
use Rattle.sqlite_wal.specs.Format.{IsHeader, page_number, content}
use Rattle.sqlite_wal.specs.Outcome.{HasCause, OnlyIf}
use Rattle.sqlite_wal.specs.Recovery.{frame, frame_at, header, Replays}
use Rattle.sqlite_wal.specs.declared.error.Error.TheVariants.{Full}
use Rattle.exh_codec.specs.declared.block.TheConstants.{BLOCK_LEN}
use Rattle.exh_codec.specs.Block.{AreZero}
use Rattle.exh_commit.specs.declared.log_fault.LogFault.{LogFault}
use Rattle.exh_commit.specs.declared.log_fault.LogFault.TheVariants.{NoLog, Read}

-- ---- its first bytes

-- how the header of a log of blocks begins: the magic number, whose last byte says how the checksum reads words, the version and the length of a block
abbrev pub front : ℕ → ℕ → List ℕ
front first order = first ∷ 0x7f ∷ 0x06 ∷ order ∷ 0 ∷ 0x2d ∷ 0xe2 ∷ 0x18 ∷ 0 ∷ 0 ∷ 0x10 ∷ 0 ∷ []

-- the bytes begin so, with this first one, or are fewer and a beginning of that
abbrev pub BeginsAs : ℕ → List ℕ → Type 0
BeginsAs first bytes = (take 12 bytes ≡ take (length bytes) (front first 0x82)) ⊎ (take 12 bytes ≡ take (length bytes) (front first 0x83))

-- it is empty, or a log that was begun, which has no commit yet
pub record IsShort (log : List ℕ) : Type 0 where
  pub short : length log ≤ 56
  pub begun : AreZero log ⊎ BeginsAs 0x37 log

-- it is being emptied, so that what is behind may be half old, half new
abbrev pub IsEmptied : List ℕ → Type 0
IsEmptied log = BeginsAs 0 log

-- ---- its commits

-- a block that begins so is the header of a page file of version 3, which may be damaged
pub record IsHeaderOfPages (block : List ℕ) : Type 0 where
  pub magic : take 8 block ≡ codes "EXHASHPF"
  pub high : slice_index block 8 ≡ 0
  pub low : slice_index block 9 ≡ 3

-- of these first frames the last one that is of page 1 has such a header
pub record HasHeader (log : List ℕ) (frames : ℕ) : Type 0 where
  pub at : ℕ
  pub within : at < frames
  pub first : page_number (frame BLOCK_LEN log at) ≡ 1
  pub last : (i : ℕ) → at < i → i < frames → page_number (frame BLOCK_LEN log i) ≢ 1
  pub header : IsHeaderOfPages (content (frame BLOCK_LEN log at))

-- the last commit, if there is one, is of a page file
abbrev pub HasOwnCommits : List ℕ → Type 0
HasOwnCommits log = (frames : ℕ) → Replays BLOCK_LEN log frames → 0 < frames → HasHeader log frames

-- it has a signed header
pub record IsWritten (log : List ℕ) : Type 0 where
  pub long : 56 < length log
  pub signed : IsHeader BLOCK_LEN (header log)
  pub own : HasOwnCommits log

-- ---- the look

-- these bytes are opened for writing, and no others
abbrev pub IsOwnLog : List ℕ → Type 0
IsOwnLog log = IsEmptied log ⊎ (IsShort log ⊎ IsWritten log)

-- 32 bits don't number the frames
abbrev pub IsVast : List ℕ → Type 0
IsVast log = frame_at BLOCK_LEN 0xffff_fffe ≤ length log

-- these bytes aren't opened, or weren't read: the disk failed between these counts of faults, memory ran out, or there are too many
abbrev pub IsCause : List ℕ → ℕ → ℕ → LogFault → Type 0
IsCause log old new NoLog = IsOwnLog log → ⊥
IsCause log old new (Read error) = HasCause old new (OnlyIf Full (IsVast log)) error
