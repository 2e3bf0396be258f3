-- Faults of reading a legal file, and their numbers among all refusals.
use Rattle.std.specs.Prelude.{ℕ, Option, None, Some}
use Rattle.exh_format.specs.FileFault.{file_fault_number}
use Rattle.exh_format.specs.declared.file_fault.FileFault.{FileFault}
use Rattle.exh_format.specs.declared.file_fault.FileFault.TheVariants as faults
use Rattle.exh_format.specs.declared.read_file_fault.ReadFileFault.{ReadFileFault}
use Rattle.exh_format.specs.declared.read_file_fault.ReadFileFault.TheVariants as reads
use Rattle.exh_legal.specs.Reasons.{rank_of}
use Rattle.exh_format.specs.declared.legal_file_fault.LegalFileFault.{LegalFileFault}
use Rattle.exh_format.specs.declared.legal_file_fault.LegalFileFault.TheVariants.{File, Illegal, Memory, Read}

abbrev pub legal_file_fault_number : LegalFileFault → ℕ
legal_file_fault_number (File fault) = file_fault_number fault
legal_file_fault_number (Illegal reason) = 40
legal_file_fault_number Read = 41
legal_file_fault_number Memory = 10

-- the place of a block that isn't the image which belongs there
abbrev pub block_place : FileFault → Option ℕ
block_place (faults.Block place image) = Some place
block_place faults.Magic = None
block_place faults.Version = None
block_place faults.Truncated = None
block_place faults.Trailing = None

abbrev pub fault_place : LegalFileFault → Option ℕ
fault_place (File fault) = block_place fault
fault_place (Illegal reason) = None
fault_place Read = None
fault_place Memory = None

abbrev pub fault_reason : LegalFileFault → Option ℕ
fault_reason (File fault) = None
fault_reason (Illegal reason) = Some (rank_of reason)
fault_reason Read = None
fault_reason Memory = None

abbrev pub fault_of_reading : ReadFileFault → LegalFileFault
fault_of_reading (reads.File fault) = File fault
fault_of_reading reads.Read = Read
fault_of_reading reads.Memory = Memory
