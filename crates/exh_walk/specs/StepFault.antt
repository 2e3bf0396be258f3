-- The numbers of a world's refusals.
use Rattle.std.specs.Prelude.{ℕ}
use Rattle.exh_ward.specs.WardFault.{ward_fault_number}
use Rattle.exh_walk.specs.declared.step_fault.StepFault.{StepFault}
use Rattle.exh_walk.specs.declared.step_fault.StepFault.TheVariants.{NoCopy, NoRequest, NoNotice, NoTable, NoWard, NameTaken, Ward}

abbrev pub step_fault_number : StepFault → ℕ
step_fault_number NoCopy = 20
step_fault_number NoRequest = 21
step_fault_number NoNotice = 22
step_fault_number NoTable = 23
step_fault_number NoWard = 24
step_fault_number NameTaken = 25
step_fault_number (Ward fault) = ward_fault_number fault
