use Rattle.exh_transfer.proofs.importing.import.Goals as goal

pub returns-clause-ends : goal.returns-clause-ends
returns-clause-ends g c = (c.outcome_of-outcome.result, c.end_import.ensures.ends)
