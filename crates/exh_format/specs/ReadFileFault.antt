-- Faults of reading a file.
use Rattle.std.specs.Prelude.{ℕ}
use Rattle.exh_codec.specs.declared.image_fault.ImageFault.{ImageFault}
use Rattle.exh_codec.specs.declared.image_fault.ImageFault.TheVariants as images
use Rattle.exh_format.specs.declared.file_fault.FileFault.TheVariants.{Block}
use Rattle.exh_format.specs.FileFault.{file_fault_number}
use Rattle.exh_format.specs.declared.read_file_fault.ReadFileFault.{ReadFileFault}
use Rattle.exh_format.specs.declared.read_file_fault.ReadFileFault.TheVariants.{File, Memory, Read}

-- want of memory isn't the file's
abbrev pub fault_at : ℕ → ImageFault → ReadFileFault
fault_at place images.Memory = Memory
fault_at place images.Digest = File (Block place images.Digest)
fault_at place images.Kind = File (Block place images.Kind)
fault_at place images.Length = File (Block place images.Length)
fault_at place images.Padding = File (Block place images.Padding)
fault_at place images.Prefix = File (Block place images.Prefix)
fault_at place images.Order = File (Block place images.Order)

-- its number among all refusals
abbrev pub read_file_fault_number : ReadFileFault → ℕ
read_file_fault_number (File fault) = file_fault_number fault
read_file_fault_number Read = 41
read_file_fault_number Memory = 10
