-- Where the run of a job saves.
use Rattle.std.specs.Prelude.{◌≡◌, ⊤, ℕ, List, Option, None, Some}
use Rattle.std.specs.Borrow.{Bor}
use Rattle.exh_command.specs.declared.job.Job.{Job}
use Rattle.exh_command.specs.declared.job.Job.TheVariants.{Serve, Check, Dump, Load, Storm, Pairs, Convert, Version, Manual}
use Rattle.exh_job.specs.declared.job_path.JobPath.{JobPath}
use Rattle.exh_job.specs.declared.ending.Ending.{Ending}
use Rattle.exh_job.specs.declared.ending.Ending.TheVariants.{Over, Save, SaveNew}

abbrev pub at : Option (Bor (List ℕ)) → Option JobPath
at None = None
at (Some path) = Some (record { path = path })

-- the path of `--save`, and that of `load`; of a script never the one that is opened; a convert saves at the new path
abbrev pub path_of : Job → Option JobPath
path_of (Serve opened saved) = at saved
path_of (Check path) = None
path_of (Dump path) = None
path_of (Load path way) = at (Some path)
path_of (Storm config) = None
path_of (Pairs path cap ward_bits keyer) = None
path_of (Convert path new version) = at (Some new)
path_of Version = None
path_of (Manual command) = None

-- what is saved at the end, if anything is, is saved there
abbrev pub SavesAt : Option JobPath → Ending → Type 0
SavesAt path (Over status) = ⊤
SavesAt path (Save one wards) = path ≡ Some one
SavesAt path (SaveNew one wards version) = path ≡ Some one
