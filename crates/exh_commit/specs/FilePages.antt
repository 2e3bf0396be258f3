-- The bytes that a file and its log stand for, as pages and as blocks.
use Rattle.std.specs.Prelude.{◌≡◌, ◌⊎◌, ℕ, zero, suc, ◌-◌, ◌*◌, ◌/◌, ◌&&◌, nat_le, if◌then◌else◌, List, [], ◌++◌, length, Option, Some, None}
use Rattle.sqlite_disk.specs.declared.Disk.{Ghosts}
use Rattle.sqlite_wal.specs.Files.{outcomes, seen_image}
use Rattle.sqlite_wal.specs.Reads.{AreClean}
use Rattle.sqlite_wal.specs.Recovery.{Image, Pages, Recovers, RecoversAs}
use Rattle.exh_codec.specs.declared.block.TheConstants.{BLOCK_LEN}
use Rattle.exh_edits.specs.FileTests.{block_at}

-- ---- pages and bytes

-- each whole block is a page, the file's first the page 1
abbrev pub pages_of : List ℕ → Pages
pages_of bytes n = if nat_le 1 n && nat_le n (length bytes / BLOCK_LEN) then Some (block_at (n - 1) bytes) else None

abbrev pub bytes_in_page : Option (List ℕ) → List ℕ
bytes_in_page (Some bytes) = bytes
bytes_in_page None = []

-- the first so many pages, one after the other
abbrev pub bytes_of : ℕ → Pages → List ℕ
bytes_of zero pages = []
bytes_of (suc count) pages = bytes_of count pages ++ bytes_in_page (pages (suc count))

-- ---- the two files

-- the two files stand for these whole blocks
pub record StandsFor (image : Image) (bytes : List ℕ) : Type 0 where
  pub count : ℕ
  pub whole : length bytes ≡ BLOCK_LEN * count
  pub recovers : Recovers BLOCK_LEN image (pages_of bytes)

-- each outcome of a crash stands for bytes of which `P` holds
abbrev pub Leaves : {D : Type 0} → Ghosts D → D × D → (List ℕ → Type 0) → Type 0
Leaves g files P = (left : Image) → AreClean g files.0 files.1 → outcomes g files.0 files.1 left → (bytes : List ℕ) × StandsFor left bytes × P bytes

-- the same of the file alone, without its log
abbrev pub LeavesAlone : {D : Type 0} → Ghosts D → D × D → (List ℕ → Type 0) → Type 0
LeavesAlone g files P = (left : Image) → AreClean g files.0 files.1 → outcomes g files.0 files.1 left → (bytes : List ℕ) × StandsFor (record { log = []; db = left.db }) bytes × P bytes

-- each outcome of a crash is one from before, or stands for what the files stood for
abbrev pub LeavesAsFound : {D : Type 0} → Ghosts D → D × D → D × D → Type 0
LeavesAsFound g old new = (left : Image) → AreClean g new.0 new.1 → outcomes g new.0 new.1 left → outcomes g old.0 old.1 left ⊎ RecoversAs BLOCK_LEN (seen_image g old.0 old.1) left
