use Rattle.exh_in_place.proofs.saving.answer_in_place.Goals as goal

pub answer_over-answered-requires-clause-log_synced : goal.answer_over-answered-requires-clause-log_synced
answer_over-answered-requires-clause-log_synced c = c.in_ok-files.ensures.on_disk.0

pub answer_over-answered-requires-clause-db_synced : goal.answer_over-answered-requires-clause-db_synced
answer_over-answered-requires-clause-db_synced c = c.in_ok-files.ensures.on_disk.1
