use Rattle.std.proofs.Common.{IfSome, inl, rules}
use Rattle.exh_saving.specs.Dressed.{IsDressed}
use Rattle.exh_saving.specs.Replaced.{IsStill}
use Rattle.exh_saving.proofs.Handed.{handed_on}
use Rattle.exh_saving.proofs.beside.prepare.Goals as goal

-- where nothing may be replaced the fault is that
pub returns-in_err-there-clause-err : goal.returns-in_err-there-clause-err
returns-in_err-there-clause-err g c = handed_on c.from_residual.result _ c.in_err-there.field-0.0 c.from_residual.ensures.1 (inl c.in_err-there.ensures.err)

-- what is there was looked at, and the file dressed like it
pub returns-in-Ok-clause-again : goal.returns-in-Ok-clause-again
returns-in-Ok-clause-again g c =
    let there = c.in_ok-there.there in
    let still : IsStill c.args.old there = search rules in
    let dressed : IfSome there (IsDressed g.D.Disk.answers) = search rules in
    (there, (c.in_ok-there.ensures.there, c.in_ok-there.ensures.ok), still, dressed)
