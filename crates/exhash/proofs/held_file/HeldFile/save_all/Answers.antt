use Rattle.exhash.proofs.held_file.HeldFile.save_all.Goals as goal

pub returns-in-Placed-clause-kept : goal.returns-in-Placed-clause-kept
returns-in-Placed-clause-kept c whole has = c.save_placed.ensures.kept whole (c.in_ok-copy.ensures.kept whole has)
