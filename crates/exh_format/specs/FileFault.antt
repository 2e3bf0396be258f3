-- The numbers of a page file's faults among all refusals.
use Rattle.std.specs.Prelude.{ℕ}
use Rattle.exh_codec.specs.ImageFault.{image_fault_number}
use Rattle.exh_format.specs.declared.file_fault.FileFault.{FileFault}
use Rattle.exh_format.specs.declared.file_fault.FileFault.TheVariants.{Block, Magic, Trailing, Truncated, Version}

abbrev pub file_fault_number : FileFault → ℕ
file_fault_number (Block place fault) = image_fault_number fault
file_fault_number Magic = 36
file_fault_number Version = 37
file_fault_number Truncated = 38
file_fault_number Trailing = 39
