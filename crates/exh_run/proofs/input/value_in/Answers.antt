use Rattle.exh_run.proofs.input.value_in.Goals as goal

pub returns : goal.returns
returns c = (c.taken_of.result.now, (c.taken_of.ensures, c.value_of.ensures))
