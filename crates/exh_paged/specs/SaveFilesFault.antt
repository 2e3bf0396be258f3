-- What a fault of a save tells of a file and its log, and when it comes.
use Rattle.std.specs.Prelude.{◌≡◌, ⊤, ℕ, List}
use Rattle.exh_commit.specs.declared.DifferingFault.TheVariants.{Shorter}
use Rattle.exh_commit.specs.Comparison.{EndsEarly}
use Rattle.exh_file.specs.Draft.{DraftState, bytes_in}
use Rattle.exh_paged.specs.FilesFault as files
use Rattle.exh_paged.specs.declared.expected.Expected.TheVariants.{Stamp}
use Rattle.exh_paged.specs.declared.save_files_fault.SaveFilesFault.{SaveFilesFault}
use Rattle.exh_paged.specs.declared.save_files_fault.SaveFilesFault.TheVariants.{Draft, Content, Files}

-- nothing was committed, and a crash leaves the bytes from before
abbrev pub IsUnchanged : SaveFilesFault → Type 0
IsUnchanged (Draft fault) = ⊤
IsUnchanged (Content fault) = ⊤
IsUnchanged (Files fault) = files.IsUnchanged fault

-- the edits were committed, and a crash leaves the bytes after them
abbrev pub IsSaved : SaveFilesFault → Type 0
IsSaved (Draft fault) = ⊥
IsSaved (Content fault) = ⊥
IsSaved (Files fault) = files.IsSaved fault

-- the header of the bytes has another stamp than this, or fails this test first
abbrev pub IsCause : ℕ → List ℕ → SaveFilesFault → Type 0
IsCause stamp bytes (Draft fault) = ⊤
IsCause stamp bytes (Content fault) = ⊤
IsCause stamp bytes (Files fault) = files.IsCause (Stamp stamp) bytes fault

-- the draft is refused as too short only where it writes fewer blocks than the bytes have
abbrev pub IsOfContent : DraftState → List ℕ → SaveFilesFault → Type 0
IsOfContent draft bytes fault = fault ≡ Content Shorter → EndsEarly bytes (bytes_in draft)
