use Rattle.std.proofs.Common.{ap, refl, arith}
use Rattle.exh_calls.specs.declared.settlement.Settled.{Settled}
use Rattle.exh_live.proofs.file.settled.Goals as goal

pub invariant_of-journals : goal.invariant_of-journals
invariant_of-journals g c = record { bits = c.requires.config.ward_bits }

pub returns-in-Ok-clause-settled : goal.returns-in-Ok-clause-settled
returns-in-Ok-clause-settled g c = c.in-Ok.ensures.0

pub returns-in-Ok-clause-count : goal.returns-in-Ok-clause-count
returns-in-Ok-clause-count g c = ap (λ (settled : Settled). settled.answers) c.in-Ok.ensures.1

pub returns-in-Err-clause-settled : goal.returns-in-Err-clause-settled
returns-in-Err-clause-settled g c = tt

pub returns-in-Err-clause-count : goal.returns-in-Err-clause-count
returns-in-Err-clause-count g c = tt

pub overflow_cast-result : goal.overflow_cast-result
overflow_cast-result g c = omega (arith, ap (λ (settled : Settled). settled.answers) c.in-Ok.ensures.1, c.requires.few)

pub returns-in-Ok-clause-fault : goal.returns-in-Ok-clause-fault
returns-in-Ok-clause-fault g c = tt

pub returns-in-Err-clause-fault : goal.returns-in-Err-clause-fault
returns-in-Err-clause-fault g c = (refl, c.in-Err.ensures)
