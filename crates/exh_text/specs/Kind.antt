-- Of which lines standard error tells, by what was printed of them.
use Rattle.std.specs.Prelude.{ℕ, List, Option, Some, None, codes, if◌then◌else◌, nat_eq}
use Rattle.std.specs.List.{starts_with}
use Rattle.std.specs.Str.{bytes_eq}
use Rattle.exh_text.specs.Contents.{on_line}
use Rattle.exh_text.specs.declared.line_fault.LineFault.{LineFault}
use Rattle.exh_text.specs.declared.line_fault.LineFault.TheVariants as faults
use Rattle.exh_text.specs.declared.kind.Kind.{Kind}
use Rattle.exh_text.specs.declared.kind.Kind.TheVariants.{Syntax, Range, Full}

-- the kind of a line of which this was printed
abbrev pub kind_of : List ℕ → Option Kind
kind_of printed =
    if bytes_eq printed (on_line (codes "refused 60")) then Some Syntax
    else (if bytes_eq printed (on_line (codes "refused 61")) then Some Range
    else (if starts_with nat_eq printed (codes "full ") then Some Full else None))

-- and of one that is refused with this
abbrev pub kind_of_fault : LineFault → Kind
kind_of_fault faults.Syntax = Syntax
kind_of_fault faults.Range = Range
