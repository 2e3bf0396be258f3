-- What a fault of a change tells of a file and its log, and when it comes.
use Rattle.std.specs.Prelude.{⊤, List, ℕ}
use Rattle.sqlite_wal.specs.Recovery.{Image}
use Rattle.exh_change.specs.DirectLaws.{IsOtherFault}
use Rattle.exh_format.specs.FileTests.{IsWhole, block_at}
use Rattle.exh_format.specs.FirstFailing.{IsFirstFailing}
use Rattle.exh_format.specs.HeaderTests.{header_tests}
use Rattle.exh_cells.specs.StampedHeader.{PassesStamped}
use Rattle.exh_commit.specs.declared.change_fault.ChangeFault.{ChangeFault}
use Rattle.exh_commit.specs.declared.change_fault.ChangeFault.TheVariants.{Open, Refused, Commit, LeftInLog}
use Rattle.exh_commit.specs.declared.commit_fault.CommitFault.TheVariants.{Place, NotSaved, MaybeSaved}
use Rattle.exh_commit.specs.Change as changes
use Rattle.exh_paged.specs.declared.expected.Expected.{Expected}
use Rattle.exh_paged.specs.declared.files_fault.FilesFault.{FilesFault}
use Rattle.exh_paged.specs.declared.files_fault.FilesFault.TheVariants.{OthersLog, NotAsOpened, Header, Read, Uncopied, Change}
use Rattle.exh_paged.specs.OwnLog.{IsAny, IsInOther, IsOthers}

-- nothing was committed, and a crash leaves the bytes from before
abbrev pub IsUnchanged : FilesFault → Type 0
IsUnchanged OthersLog = ⊤
IsUnchanged NotAsOpened = ⊤
IsUnchanged (Header fault) = ⊤
IsUnchanged (Read error) = ⊤
IsUnchanged (Uncopied error) = ⊤
IsUnchanged (Change fault) = changes.IsUnchanged fault

-- the edits were committed, and a crash leaves the bytes after them
abbrev pub IsSaved : FilesFault → Type 0
IsSaved OthersLog = ⊥
IsSaved NotAsOpened = ⊥
IsSaved (Header fault) = ⊥
IsSaved (Read error) = ⊥
IsSaved (Uncopied error) = ⊥
IsSaved (Change fault) = changes.IsSaved fault

-- it came before the change: the file isn't as is expected, its header couldn't be read, what its log has couldn't be copied into
-- it, or the two couldn't be opened
abbrev pub IsEarly : FilesFault → Type 0
IsEarly OthersLog = ⊤
IsEarly NotAsOpened = ⊤
IsEarly (Header fault) = ⊤
IsEarly (Read error) = ⊤
IsEarly (Uncopied error) = ⊤
IsEarly (Change (Open error)) = ⊤
IsEarly (Change (Refused fault)) = ⊥
IsEarly (Change (Commit fault)) = ⊥
IsEarly (Change (LeftInLog error)) = ⊥

-- the bytes aren't in the state that is expected, or their header fails this test first; of another file's log `IsCauseIn` says more
abbrev pub IsCause : Expected → List ℕ → FilesFault → Type 0
IsCause expected bytes OthersLog = IsAny expected
IsCause expected bytes NotAsOpened = IsInOther expected bytes
IsCause expected bytes (Header fault) = IsWhole 0 bytes × IsFirstFailing (PassesStamped (block_at 0 bytes)) header_tests fault
IsCause expected bytes (Read error) = ⊤
IsCause expected bytes (Uncopied error) = ⊤
IsCause expected bytes (Change fault) = ⊤

-- it tells of another file's log
abbrev pub IsOthersLog : FilesFault → Type 0
IsOthersLog OthersLog = ⊤
IsOthersLog fault = ⊥

-- the same of the bytes that a file and its log stand for: another file's log is told only where they are of another file
pub record IsCauseIn (expected : Expected) (image : Image) (bytes : List ℕ) (fault : FilesFault) : Type 0 where
  pub cause : IsCause expected bytes fault
  pub others : IsOthersLog fault → IsOthers image bytes

-- nothing is refused for what the file has, and no edit strays: a read failed, a growth was refused, or the two files failed
abbrev pub IsOfDisk : ChangeFault → Type 0
IsOfDisk (Open error) = ⊤
IsOfDisk (Refused fault) = IsOtherFault fault
IsOfDisk (Commit (Place place)) = ⊥
IsOfDisk (Commit (NotSaved error)) = ⊤
IsOfDisk (Commit (MaybeSaved error)) = ⊤
IsOfDisk (LeftInLog error) = ⊤

-- the same of the change of a file that was opened
abbrev pub ChangeFails : (ChangeFault → Type 0) → FilesFault → Type 0
ChangeFails Holds OthersLog = ⊤
ChangeFails Holds NotAsOpened = ⊤
ChangeFails Holds (Header fault) = ⊤
ChangeFails Holds (Read error) = ⊤
ChangeFails Holds (Uncopied error) = ⊤
ChangeFails Holds (Change fault) = Holds fault
