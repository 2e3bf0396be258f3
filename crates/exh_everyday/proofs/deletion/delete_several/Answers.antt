use Rattle.exh_everyday.proofs.deletion.delete_several.Goals as goal

pub returns-clause-ends : goal.returns-clause-ends
returns-clause-ends g c = (c.taken_out-taken.result, (c.taken_out-taken.ensures, c.end_delete.ensures.ends))
