use Rattle.exh_saving.proofs.claiming.make.Goals as goal

-- another save took the file over
pub returns-in-Err-Busy-clause-err : goal.returns-in-Err-Busy-clause-err
returns-in-Err-Busy-clause-err g c = rw c.in-Err-Busy.field-0-is at c.in-Err-Busy.ensures.why
