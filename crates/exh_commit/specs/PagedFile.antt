-- What a file shows that was opened with its log.
use Rattle.std.specs.Prelude.{◌≡◌, ◌⊎◌, ◌&&◌, if◌then◌else◌, ℕ, Bool, List, Option, Some, None, IsTrue}
use Rattle.sqlite_disk.specs.declared.Disk.{Ghosts}
use Rattle.sqlite_wal.specs.State.{State}
use Rattle.sqlite_pager.specs.declared.pager.Pager.{Pager}
use Rattle.sqlite_pager.specs.Pager.{state, visible, page_count, files}
use Rattle.exh_edits.specs.declared.block_edit.BlockEdit.{BlockEdit}
use Rattle.exh_edits.specs.BlockEdits.{with_edits}
use Rattle.exh_commit.specs.declared.paged_file.PagedFile.{PagedFile}
use Rattle.exh_commit.specs.FilePages.{bytes_of}

-- the bytes from before, or those after the edits
abbrev pub IsOldOrEdited : List BlockEdit → List ℕ → List ℕ → Type 0
IsOldOrEdited edits old bytes = (bytes ≡ old) ⊎ (bytes ≡ with_edits edits old)

module _ {D : Type 0} {g : Ghosts D} where
  -- the pages that a pager shows, one after the other
  abbrev pub bytes_seen : Pager D g → List ℕ
  bytes_seen it = bytes_of (page_count it) (visible it)

  abbrev pub state_in : PagedFile D g → State
  state_in it = state it.pager

  -- no call has failed that asks for a new open
  abbrev pub IsReady : PagedFile D g → Type 0
  IsReady it = IsTrue (state_in it).is_ready

  -- no wrong answer of the disk was taken as true, which no code can tell
  abbrev pub IsHonest : PagedFile D g → Type 0
  IsHonest it = IsTrue (state_in it).is_clean

  -- the blocks, one after the other, of a file that is ready and honest
  abbrev pub bytes_in : PagedFile D g → List ℕ
  bytes_in it = bytes_seen it.pager

  -- the bytes, where no answer of the disk can be wrong and the file is ready
  abbrev pub known_in : Bool → PagedFile D g → Option (List ℕ)
  known_in truthful it = if truthful && (state_in it).is_ready then Some (bytes_in it) else None

  -- the log and the file
  abbrev pub files_in : PagedFile D g → D × D
  files_in it = files it.pager
