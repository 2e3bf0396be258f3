use Rattle.exh_transfer.proofs.exporting.export.Goals as goal

pub returns-clause-ends : goal.returns-clause-ends
returns-clause-ends g c = (c.pairs_at-pairs.result, c.end_export.ensures.ends)
