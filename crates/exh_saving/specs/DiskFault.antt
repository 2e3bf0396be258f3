-- What a failed call of the system comes to.
use Rattle.std.specs.Prelude.{Bool, true, false, if◌then◌else◌}
use Rattle.std.specs.IoError.{error_kind}
use Rattle.std.specs.declared.io.Error.{Error}
use Rattle.std.specs.declared.io.ErrorKind.{ErrorKind}
use Rattle.std.specs.declared.io.ErrorKind.TheVariants.{OutOfMemory}
use Rattle.exh_saving.specs.declared.fault.Call.{Call}
use Rattle.exh_saving.specs.declared.fault.DiskFault.{DiskFault}
use Rattle.exh_saving.specs.declared.fault.DiskFault.TheVariants.{Memory, System}

-- the system says that memory ran out
abbrev pub is_out_of_memory : ErrorKind → Bool
is_out_of_memory OutOfMemory = true
is_out_of_memory kind = false

-- how a call of the system that failed is told: want of memory as such, all else by the call and the system's own error
abbrev pub told : Call → Error → DiskFault
told call error = if is_out_of_memory (error_kind error) then Memory else System call error
