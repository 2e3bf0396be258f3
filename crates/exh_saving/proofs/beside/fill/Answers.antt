use Rattle.std.proofs.Common.{inl}
use Rattle.exh_saving.proofs.beside.fill.Goals as goal

-- nothing was written
pub returns-in-Err-clause-err : goal.returns-in-Err-clause-err
returns-in-Err-clause-err g c = inl c.in-Err.ensures.err
