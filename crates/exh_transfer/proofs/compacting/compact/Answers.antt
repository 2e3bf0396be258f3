use Rattle.exh_transfer.proofs.compacting.compact.Goals as goal

pub returns-clause-ends : goal.returns-clause-ends
returns-clause-ends g c = (c.compact-done.result, c.end_compact.ensures.ends)
