use Rattle.exh_everyday.proofs.change.make_change.Goals as goal

pub returns-clause-ends : goal.returns-clause-ends
returns-clause-ends g c = (c.answer_to-answered.result, (c.answer_to-answered.ensures, c.end_change.ensures.ends))
