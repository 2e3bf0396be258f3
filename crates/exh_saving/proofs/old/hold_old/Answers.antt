use Rattle.std.proofs.Common.{inl, inr}
use Rattle.exh_saving.proofs.Handed.{handed_on}
use Rattle.exh_saving.proofs.old.hold_old.Goals as goal

-- where nothing may be replaced the fault is that
pub returns-in_err-found-clause-err : goal.returns-in_err-found-clause-err
returns-in_err-found-clause-err g c = handed_on c.from_residual.result _ c.in_err-found.field-0.0 c.from_residual.ensures.1 (inl c.in_err-found.ensures.err)

-- where a file that the run hasn't opened isn't locked the fault is that
pub returns-in_err-held-in_default-seen-clause-err : goal.returns-in_err-held-in_default-seen-clause-err
returns-in_err-held-in_default-seen-clause-err g c =
    handed_on c.from_residual-in_err-held-in_default-seen.result _ c.in_err-held-in_default-seen.field-0.0 c.from_residual-in_err-held-in_default-seen.ensures.1
    (inr c.in_err-held-in_default-seen.ensures.err)
