-- In which state a file is, and whether the log beside it is its own.
use Rattle.std.specs.Prelude.{◌≡◌, ◌⊎◌, ⊤, ℕ, List, Option, Some, None, IfSome}
use Rattle.sqlite_wal.specs.Recovery.{Image}
use Rattle.exh_format.specs.FileTests.{IsWhole, block_at}
use Rattle.exh_cells.specs.declared.stamped_header.StampedHeader.{StampedHeader}
use Rattle.exh_cells.specs.StampedHeader.{IsStampedImage}
use Rattle.exh_commit.specs.FilePages.{StandsFor}
use Rattle.exh_commit.specs.LogLine.{IsBlockOf, IsLineOf}
use Rattle.exh_paged.specs.declared.expected.Expected.{Expected}
use Rattle.exh_paged.specs.declared.expected.Expected.TheVariants.{Own, Stamp}

-- the header stands in the first block
pub record HasHeader (bytes : List ℕ) (header : StampedHeader) : Type 0 where
  pub whole : IsWhole 0 bytes
  pub is : IsStampedImage header (block_at 0 bytes)

-- its header has this stamp; where the first block is no header it has none
pub record HasStamp (stamp : ℕ) (bytes : List ℕ) : Type 0 where
  pub header : StampedHeader
  pub there : HasHeader bytes header
  pub is : header.stamp ≡ stamp

-- ---- a state of the file

-- The header is of a state of the file that the image has: where that has a stamp without its log, the header has that stamp too,
-- or has it as the stamp before, or the log has the states that lead from it.
abbrev pub IsLaterIn : Image → StampedHeader → Type 0
IsLaterIn image header = (stamp : ℕ) → HasStamp stamp image.db → (header.stamp ≡ stamp) ⊎ ((header.before ≡ stamp) ⊎ IsLineOf image.log stamp)

-- the bytes that a file and its log stand for are a state of that file
pub record IsOwn (image : Image) (bytes : List ℕ) : Type 0 where
  pub header : StampedHeader
  pub there : HasHeader bytes header
  pub later : IsLaterIn image header

-- they are of another file
pub record IsOthers (image : Image) (bytes : List ℕ) : Type 0 where
  pub header : StampedHeader
  pub there : HasHeader bytes header
  pub never : IsLaterIn image header → ⊥

-- a file and its log that belong together: they stand for bytes with a header, and where the file has a stamp without its log,
-- the header has it, or has it as the stamp before
pub record IsOwnPair (image : Image) : Type 0 where
  pub bytes : List ℕ
  pub stands : StandsFor image bytes
  pub header : StampedHeader
  pub there : HasHeader bytes header
  pub own : (stamp : ℕ) → HasStamp stamp image.db → (header.stamp ≡ stamp) ⊎ (header.before ≡ stamp)

-- ---- the state in which the file is

-- its header has another stamp
pub record HasOtherStamp (stamp : ℕ) (bytes : List ℕ) : Type 0 where
  pub header : StampedHeader
  pub there : HasHeader bytes header
  pub never : header.stamp ≡ stamp → ⊥

-- ---- what is expected of it

-- the bytes that the image stands for are in the state that is expected
abbrev pub IsExpected : Expected → Image → List ℕ → Type 0
IsExpected Own image bytes = IsOwn image bytes
IsExpected (Stamp stamp) image bytes = HasStamp stamp bytes

-- any state of the file is
abbrev pub IsAny : Expected → Type 0
IsAny Own = ⊤
IsAny (Stamp stamp) = ⊥

-- one state is expected, and they are in another
abbrev pub IsInOther : Expected → List ℕ → Type 0
IsInOther Own bytes = ⊥
IsInOther (Stamp stamp) bytes = HasOtherStamp stamp bytes

-- ---- what is read before the log is opened

-- the file has this stamp, and no other
pub record IsOwnStamp (stamp : ℕ) (db : List ℕ) : Type 0 where
  pub has : HasStamp stamp db
  pub only : (other : ℕ) → HasStamp other db → other ≡ stamp

-- the header has this stamp, or has it as the stamp before; where there is none it may have any
abbrev pub IsLaterThan : Option ℕ → StampedHeader → Type 0
IsLaterThan own header = IfSome own (λ stamp. (header.stamp ≡ stamp) ⊎ (header.before ≡ stamp))

-- the stamp that a header in the log has to have, or to have as the stamp before; none where it may have any
abbrev pub MustHave : Image → Option ℕ → Type 0
MustHave image (Some stamp) = IsOwnStamp stamp image.db × (IsLineOf image.log stamp → ⊥)
MustHave image None = (stamp : ℕ) → HasStamp stamp image.db → IsLineOf image.log stamp

-- the same of an opening that expects a state
abbrev pub MustHaveFor : Expected → Image → Option ℕ → Type 0
MustHaveFor Own image own = MustHave image own
MustHaveFor (Stamp stamp) image own = own ≡ None

-- ---- what a reader copies

-- the file has a header by itself, or its first block is a damaged one into which a state of the log was being copied
abbrev pub MayBeCopied : Image → Type 0
MayBeCopied image = IsWhole 0 image.db × (((header : StampedHeader) × IsStampedImage header (block_at 0 image.db)) ⊎ IsBlockOf image.log (block_at 0 image.db))
