-- Why a page file isn't copied.
use Rattle.std.specs.Prelude.{◌≡◌, ◌⊎◌, ⊤}
use Rattle.exh_map.specs.Sizes.{IsOfCause, IsOfOpening}
use Rattle.exh_map.specs.declared.store_error.StoreError.{StoreError}
use Rattle.exh_map.specs.declared.store_error.StoreError.TheVariants.{Exists, NoHeader, Unsynchronized}
use Rattle.exh_map.specs.declared.fault.BackupFault.{BackupFault}
use Rattle.exh_map.specs.declared.fault.BackupFault.TheVariants.{Copy, File}

-- the file that is to be copied isn't opened or read, or doesn't begin as a page file does
abbrev pub IsOfSource : StoreError → Type 0
IsOfSource fault = (fault ≡ NoHeader) ⊎ IsOfOpening fault

-- something is at the new path, or the copy isn't made there
abbrev pub IsOfPlace : StoreError → Type 0
IsOfPlace fault = (fault ≡ Exists) ⊎ IsOfCause fault

-- it is made, and its folder isn't synchronized
abbrev pub IsUnsynchronized : StoreError → Type 0
IsUnsynchronized (Unsynchronized error) = ⊤
IsUnsynchronized fault = ⊥

abbrev pub IsOfBackup : BackupFault → Type 0
IsOfBackup (File fault) = IsOfSource fault
IsOfBackup (Copy fault) = IsUnsynchronized fault ⊎ IsOfPlace fault
