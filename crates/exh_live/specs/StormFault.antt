-- The numbers of a storm's refusals.
use Rattle.std.specs.Prelude.{ℕ}
use Rattle.exh_live.specs.declared.fault.StormFault.{StormFault}
use Rattle.exh_live.specs.declared.fault.StormFault.TheVariants.{Memory, Page, Held, Mismatch, Seats}

abbrev pub storm_fault_number : StormFault → ℕ
storm_fault_number Memory = 10
storm_fault_number Page = 11
storm_fault_number Held = 50
storm_fault_number Mismatch = 51
storm_fault_number Seats = 52
