-- The first fault of bytes that may be a page file, in the version that they say.
use Rattle.std.specs.Prelude.{⊤, ℕ, List, Option, IfSome}
use Rattle.exh_format.specs.FileVersion.{format_of}
use Rattle.exh_format.specs.LegalFile.{IsLegalFileFault}
use Rattle.exh_format.specs.declared.legal_file_fault.LegalFileFault.{LegalFileFault}
use Rattle.exh_format.specs.declared.legal_file_fault.LegalFileFault.TheVariants.{File, Illegal, Memory, Read}
use Rattle.exh_versions.specs.LegalReading.{IsLegalPlacedFault}
use Rattle.exh_versions.specs.LegalBytes.{SaysPlaced}

-- where the bytes say version 3 the fault is that of a file of it, else that of a file of the versions before
pub record IsFirstFault (bytes : List ℕ) (fault : LegalFileFault) : Type 0 where
  pub placed : SaysPlaced bytes → IsLegalPlacedFault bytes fault
  pub plain : (SaysPlaced bytes → ⊥) → IsLegalFileFault (format_of bytes) bytes fault

-- the fault, if it is one of the bytes, is their first, where they are known
abbrev pub IsFirstFaultOf : Option (List ℕ) → LegalFileFault → Type 0
IsFirstFaultOf known (File fault) = IfSome known (λ bytes. IsFirstFault bytes (File fault))
IsFirstFaultOf known (Illegal reason) = IfSome known (λ bytes. IsFirstFault bytes (Illegal reason))
IsFirstFaultOf known Read = ⊤
IsFirstFaultOf known Memory = ⊤
