use Rattle.exh_everyday.proofs.backup.back_up.Goals as goal

pub returns : goal.returns
returns c = (c.backup_within-copied.result, c.end_backup.ensures)
