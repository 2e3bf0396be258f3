use Rattle.exh_everyday.proofs.creation.create.Goals as goal

pub returns : goal.returns
returns c = (c.make_soon-made.result, c.end_create.ensures)
