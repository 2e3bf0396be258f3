-- What has stood at the path of a file system in memory.
use Rattle.std.specs.Prelude.{ℕ, Bool, true, false, List, map, None, Option, Some, Vec, bytes_eq, if◌then◌else◌}
use Rattle.std.specs.declared.alloc.Global.{Global}
use Rattle.exh_saving.specs.History.{File, History, Nothing, Standing}
use Rattle.exh_disk_fakes.specs.declared.past.Past.{Past}
use Rattle.exh_disk_fakes.specs.declared.past.TheConstants.{PATH}

abbrev pub standing_of : Option (Vec ℕ Global) → Standing
standing_of None = Nothing
standing_of (Some bytes) = File (Some bytes.items)

abbrev pub history_of : Past → History
history_of past = record { stood = map standing_of past.stood.items; gone = past.gone }

-- of it is known what the file system keeps, unless others come in between
abbrev pub known : Bool → Past → Option History
known true past = None
known false past = Some (history_of past)

-- of the names beside the path nothing is known
abbrev pub history_at : Option History → List ℕ → Option History
history_at history path = if bytes_eq path PATH.now then history else None
