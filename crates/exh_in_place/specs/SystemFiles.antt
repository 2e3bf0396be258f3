-- What a crash leaves of a page file of the system, or of its log.
use Rattle.sqlite_disk.specs.declared.calls.Calls as calls
use Rattle.sqlite_disk.specs.declared.modelled.Modelled.{Modelled}
use Rattle.sqlite_disk.specs.declared.start.Start.{Ghosts}
use Rattle.sqlite_disk.specs.Disk.{Only}
use Rattle.sqlite_disk.specs.Events.{replay}
use Rattle.sqlite_disk.specs.History.{MayLeave}
use Rattle.sqlite_disk.specs.Modelled.{start_of}
use Rattle.sqlite_std_file.specs.declared.host.Host.{Host}

-- a crash leaves what is read of it
abbrev pub IsOnDisk : {S : Type 0} {g : calls.Ghosts Host} (start : Ghosts S) → Modelled Host S g start → Type 0
IsOnDisk start file = let it = replay (start_of start file) file.calls.log.events in Only it.seen (MayLeave start.is_mixing it.seen it.synced it.steps)
