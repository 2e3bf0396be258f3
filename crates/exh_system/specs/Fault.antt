-- What an error of the system comes to.
use Rattle.std.specs.Prelude.{◌≡◌, ◌≢◌, ◌⊎◌, ⊤}
use Rattle.std.specs.IoError.{error_kind}
use Rattle.std.specs.declared.io.Error.{Error}
use Rattle.std.specs.declared.io.ErrorKind.TheVariants.{InvalidFilename, NotFound, OutOfMemory, WouldBlock}
use Rattle.exh_system.specs.declared.in_place_fault.InPlaceFault.{InPlaceFault}
use Rattle.exh_system.specs.declared.in_place_fault.InPlaceFault.TheVariants.{Busy, Memory, System}

-- want of memory is told as such, all else by the system's own error
pub record IsFaultOf (error : Error) (fault : InPlaceFault) : Type 0 where
  pub memory : error_kind error ≡ OutOfMemory → fault ≡ Memory
  pub other : error_kind error ≢ OutOfMemory → fault ≡ System error

-- nothing is under a name: it is free, or too long for any file
abbrev pub TellsOfNone : Error → Type 0
TellsOfNone error = (error_kind error ≡ NotFound) ⊎ (error_kind error ≡ InvalidFilename)

-- a lock wasn't had: another run has it, or the system says otherwise why
abbrev pub IsLockFault : InPlaceFault → Type 0
IsLockFault Busy = ⊤
IsLockFault (System error) = error_kind error ≢ WouldBlock
IsLockFault fault = ⊥
