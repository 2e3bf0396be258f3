use Rattle.std.proofs.Common.{inl, arith}
use Rattle.exh_live.proofs.Refusals.{split_refused}
use Rattle.exh_live.proofs.locked_ward.LockedWardSteps.split.Goals as goal

pub returns-clause-step : goal.returns-clause-step
returns-clause-step g c = (omega arith, (_, _, c.split.ensures.step.0, inl c.split.ensures.step.1), split_refused g.P.Pages.failures g.K.Keyer.pseudokey_of c.args.at c.split.result c.split.ensures.refused)
