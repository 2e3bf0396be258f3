-- Faults of finding a key's value, and their numbers among all refusals.
use Rattle.std.specs.Prelude.{ℕ, Option, None, Some}
use Rattle.exh_codec.specs.declared.image_fault.ImageFault.{ImageFault}
use Rattle.exh_codec.specs.declared.image_fault.ImageFault.TheVariants as images
use Rattle.exh_format.specs.FileFault.{file_fault_number}
use Rattle.exh_format.specs.declared.file_fault.FileFault.TheVariants as faults
use Rattle.exh_direct.specs.declared.direct_fault.DirectFault.{DirectFault}
use Rattle.exh_direct.specs.declared.direct_fault.DirectFault.TheVariants.{File, Astray, Read, Memory}

abbrev pub direct_fault_number : DirectFault → ℕ
direct_fault_number (File fault) = file_fault_number fault
direct_fault_number Astray = 40
direct_fault_number Read = 41
direct_fault_number Memory = 10

-- the place of the block at fault, which the faults of images carry
abbrev pub direct_fault_place : DirectFault → Option ℕ
direct_fault_place (File (faults.Block place fault)) = Some place
direct_fault_place (File fault) = None
direct_fault_place Astray = None
direct_fault_place Read = None
direct_fault_place Memory = None

-- the fault of a block at a place whose image has this one
abbrev pub fault_at : ℕ → ImageFault → DirectFault
fault_at place images.Memory = Memory
fault_at place fault = File (faults.Block place fault)
