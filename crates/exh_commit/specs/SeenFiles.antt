-- A page file and its log, at which was looked.
use Rattle.sqlite_disk.specs.declared.Disk.{Ghosts}
use Rattle.exh_commit.specs.declared.seen_files.SeenFiles.{SeenFiles}

-- the log and the file
abbrev pub both_of : {D : Type 0} {g : Ghosts D} → SeenFiles D g → D × D
both_of it = (it.log, it.db)
