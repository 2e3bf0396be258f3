use Rattle.std.proofs.Common.{Bool, true, false, Option, Some, None, Result, Ok, Err, IfOk, IsTrue, if◌then◌else◌, refl, sym, subst, ◌≡◌}
use Rattle.exh_text.specs.declared.line_fault.LineFault.{LineFault}
use Rattle.exh_text.specs.declared.line_fault.LineFault.TheVariants.{Range}
use Rattle.exh_text.specs.declared.settings.Settings.{Settings}
use Rattle.exh_text.specs.LineFault.{ranged}
use Rattle.exh_text.specs.FileLine.{settings_in_range, spelled_settings}
use Rattle.exh_text.proofs.file_line.parse_file_line.Goals as goal

cond_in : {T : Type 0} (spelled : T) (in_range : T → Bool) (b : Bool) → in_range spelled ≡ b → IfOk (if b then Ok spelled else Err Range) (λ x. IsTrue (in_range x))
cond_in spelled in_range true is = is
cond_in spelled in_range false is = tt

ranged_in : {T : Type 0} (in_range : T → Bool) (o : Option T) → IfOk (ranged in_range o) (λ x. IsTrue (in_range x))
ranged_in in_range None = tt
ranged_in in_range (Some spelled) = cond_in spelled in_range (in_range spelled) refl

pub returns-in-Some-file-clause-range : goal.returns-in-Some-file-clause-range
returns-in-Some-file-clause-range c =
    subst (λ (read : Result Settings LineFault). IfOk read (λ settings. IsTrue (settings_in_range settings))) (sym c.parse_settings.ensures) (ranged_in settings_in_range (spelled_settings c.next.new.self))
