use Rattle.exh_transfer.proofs.counting.stats.Goals as goal

pub returns-clause-ends : goal.returns-clause-ends
returns-clause-ends g c = (c.stats_at-stats.result, c.end_stats.ensures.ends)
