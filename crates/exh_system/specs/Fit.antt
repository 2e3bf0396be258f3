-- Which page files can be changed in place, as far as their names tell.
use Rattle.std.specs.Prelude.{◌≤◌, ◌<◌, ℕ, ⊤, List, length}
use Rattle.exh_saving.specs.Folder.{IsNameIn}
use Rattle.exh_system.specs.declared.in_place_fault.InPlaceFault.{InPlaceFault}
use Rattle.exh_system.specs.declared.in_place_fault.InPlaceFault.TheVariants.{Journal, LongName, Memory, Mounted, PartOfBlock, SecondName, System}

-- a file's name has room for what stands behind it in the names of its log and of a journal
abbrev pub HasShortName : List ℕ → Type 0
HasShortName whole = (name : List ℕ) × IsNameIn whole name × (length name ≤ 247)

-- why a file can't: its name has no room; else by what the system says
abbrev pub IsUnfit : List ℕ → InPlaceFault → Type 0
IsUnfit whole LongName = (name : List ℕ) × IsNameIn whole name × (247 < length name)
IsUnfit whole PartOfBlock = ⊤
IsUnfit whole SecondName = ⊤
IsUnfit whole Mounted = ⊤
IsUnfit whole Journal = ⊤
IsUnfit whole (System error) = ⊤
IsUnfit whole Memory = ⊤
IsUnfit whole fault = ⊥
