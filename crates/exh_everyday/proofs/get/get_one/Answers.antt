use Rattle.exh_everyday.proofs.get.get_one.Goals as goal

pub returns-clause-ends : goal.returns-clause-ends
returns-clause-ends g c = (c.get-found.result, c.end_get.ensures.ends)
