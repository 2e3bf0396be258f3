-- The numbers of refusals, and what they tell of them.
use Rattle.std.specs.Prelude.{ℕ}
use Rattle.exh_text.specs.LineFault.{line_fault_number}
use Rattle.exh_ward.specs.declared.ward_fault.WardFault.TheVariants.{TooMany}
use Rattle.exh_walk.specs.StepFault.{step_fault_number}
use Rattle.exh_walk.specs.declared.step_fault.StepFault.TheVariants.{Ward}
use Rattle.exh_line.specs.declared.refusal.Refusal.{Refusal}
use Rattle.exh_line.specs.declared.refusal.Refusal.TheVariants.{Line, Step, Read, TooLong, OtherFile}

abbrev pub refusal_number : Refusal → ℕ
refusal_number (Line fault) = line_fault_number fault
refusal_number (Step fault) = step_fault_number fault
refusal_number Read = 41
refusal_number TooLong = 62
refusal_number OtherFile = 63

-- The refusal but for what its number doesn't tell: how many records a merge would have come to.
abbrev pub numbered_refusal : Refusal → Refusal
numbered_refusal (Step (Ward (TooMany sum))) = Step (Ward (TooMany 0))
numbered_refusal refusal = refusal
