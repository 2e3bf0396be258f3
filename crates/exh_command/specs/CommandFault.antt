-- What a fault of a command line stands for.
use Rattle.std.specs.Prelude.{◌≡◌, ◌≢◌, ⊤}
use Rattle.clap.specs.Words.{kind_of}
use Rattle.clap.specs.declared.error.Error.{Error}
use Rattle.clap.specs.declared.error.kind.ErrorKind.TheVariants.{DisplayVersion, OutOfMemory}
use Rattle.exh_command.specs.declared.fault.CliFault.{CliFault}
use Rattle.exh_command.specs.declared.fault.CliFault.TheVariants.{Wrong, Memory}

-- the words are at fault, and not memory
abbrev pub IsWrong : CliFault → Type 0
IsWrong (Wrong error) = ⊤
IsWrong Memory = ⊥

-- the program's version is told, want of memory aside
abbrev pub TellsVersion : CliFault → Type 0
TellsVersion (Wrong error) = kind_of error ≡ DisplayVersion
TellsVersion Memory = ⊤

-- the fault is the parser's error, where that is no want of memory
pub record IsFaultOf (error : Error) (fault : CliFault) : Type 0 where
  pub memory : kind_of error ≡ OutOfMemory → fault ≡ Memory
  pub wrong : kind_of error ≢ OutOfMemory → fault ≡ Wrong error
