-- The refusals of lines, and the one that a line gets.
use Rattle.std.specs.Prelude.{ℕ, Bool, if◌then◌else◌, Option, Some, None, Result, Ok, Err}
use Rattle.exh_text.specs.declared.line_fault.LineFault.{LineFault}
use Rattle.exh_text.specs.declared.line_fault.LineFault.TheVariants.{Syntax, Range}

abbrev pub line_fault_number : LineFault → ℕ
line_fault_number Syntax = 60
line_fault_number Range = 61

-- What isn't spelled is Syntax, whatever its numbers; what is spelled is out of range, or read.
abbrev pub ranged : {T : Type 0} → (T → Bool) → Option T → Result T LineFault
ranged in_range None = Err Syntax
ranged in_range (Some spelled) = if in_range spelled then Ok spelled else Err Range
