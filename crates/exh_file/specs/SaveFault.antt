-- Faults of writing wards, and their numbers among all refusals.
use Rattle.std.specs.Prelude.{◌≡◌, ℕ, ◌<◌, Result, Err}
use Rattle.exh_ward.specs.declared.ward_fault.WardFault.{WardFault}
use Rattle.exh_ward.specs.declared.ward_fault.WardFault.TheVariants.{Page as OutOfReach}
use Rattle.exh_file.specs.declared.save_fault.SaveFault.{SaveFault}
use Rattle.exh_file.specs.declared.save_fault.SaveFault.TheVariants.{Write, Page, Memory}

abbrev pub save_fault_number : SaveFault → ℕ
save_fault_number Write = 42
save_fault_number Page = 11
save_fault_number Memory = 10

-- the fault that a ward's refusal to give a page becomes
abbrev pub save_fault_of : WardFault → SaveFault
save_fault_of OutOfReach = Page
save_fault_of fault = Memory

-- a page fault is answered only where the count of failures rises, and that rises nowhere else
abbrev pub CountsSaveFailures : {T : Type 0} → Result T SaveFault → ℕ → ℕ → Type 0
CountsSaveFailures (Err Page) old new = old < new
CountsSaveFailures result old new = new ≡ old
