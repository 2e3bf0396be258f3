use Rattle.exh_everyday.proofs.get.get_several.Goals as goal

pub returns-clause-ends : goal.returns-clause-ends
returns-clause-ends g c = (c.values_at-found.result, (c.values_at-found.ensures, c.end_get_several.ensures.ends))
