use Rattle.exh_transfer.proofs.salvaging.salvage.Goals as goal

pub returns-clause-ends : goal.returns-clause-ends
returns-clause-ends g c = (c.salvaged_at-salvaged.result, c.end_salvage.ensures.ends)
