-- What a load prints, with the last line of a program that memory ended.
use Rattle.std.specs.Prelude.{◌≡◌, ◌⊎◌, ℕ, List, ◌++◌, Option, None, Some, Result, Ok, Err}
use Rattle.std.specs.Io.KnownBytes.{Appends}
use Rattle.exh_stream.specs.Output.{AppendsBeginning}
use Rattle.exh_load.specs.Opened.{OpenedState}
use Rattle.exh_load.specs.Load.{Load, Loads, Prints, PrintsFront}
use Rattle.exh_load.specs.declared.load_fault.LoadFault.{LoadFault}
use Rattle.exh_load.specs.declared.load_fault.LoadFault.TheVariants.{Write, Memory, Page}
use Rattle.exh_job.specs.LastLine.{memory_line}
use Rattle.exh_job.specs.declared.job_path.JobPath.{JobPath}
use Rattle.exh_job.specs.declared.ending.Ending.{Ending}
use Rattle.exh_job.specs.declared.ending.Ending.TheVariants.{Over, Save}
use Rattle.exh_job.specs.declared.status.Status.TheVariants.{Refused}

-- Of what is the load of a reader, and of a writer that held `old` bytes before a load and `new` ones after it, where these
-- are known: the load's text, and the file that comes of it; after want of memory
-- whole lines of it, and the last line; after a fault of the writer a beginning of one of these. A page out of reach ends it
-- with whole lines.
abbrev pub LoadPrints : (Load → Type 0) → Option (List ℕ) → Option (List ℕ) → Result (Option OpenedState) LoadFault → Type 0
LoadPrints Is old new (Ok file) = Loads Is (Appends old new) file
LoadPrints Is old new (Err Memory) = PrintsFront Is (λ text. Appends old new (text ++ memory_line))
LoadPrints Is old new (Err Page) = PrintsFront Is (Appends old new)
LoadPrints Is old new (Err Write) = Prints Is (AppendsBeginning old new) ⊎ PrintsFront Is (λ text. AppendsBeginning old new (text ++ memory_line))

-- After a load the file that comes of it is saved at the job's path; without a file, or a path for it, the program ends refused.
abbrev pub IsLoadEnding : Result (Option OpenedState) LoadFault → Option JobPath → Ending → Type 0
IsLoadEnding (Ok (Some wards)) (Some path) ending = ending ≡ Save path wards
IsLoadEnding loaded path ending = ending ≡ Over Refused
