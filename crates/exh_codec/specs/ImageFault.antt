-- The numbers of an image's faults among all refusals.
use Rattle.std.specs.Prelude.{ℕ}
use Rattle.exh_codec.specs.declared.image_fault.ImageFault.{ImageFault}
use Rattle.exh_codec.specs.declared.image_fault.ImageFault.TheVariants.{Memory, Kind, Length, Order, Padding, Digest, Prefix}

abbrev pub image_fault_number : ImageFault → ℕ
image_fault_number Memory = 10
image_fault_number Kind = 30
image_fault_number Length = 31
image_fault_number Order = 32
image_fault_number Padding = 33
image_fault_number Digest = 34
image_fault_number Prefix = 35
