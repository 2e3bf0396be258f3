use Rattle.exh_run.proofs.saving.save.Goals as goal

pub returns : goal.returns
returns c = (c.close-closed.result, (record { read = c.close-closed.ensures.read; refused = c.close-closed.ensures.refused }, c.end_save.ensures))
