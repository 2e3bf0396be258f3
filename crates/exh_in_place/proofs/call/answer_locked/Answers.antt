use Rattle.exh_in_place.proofs.call.answer_locked.Goals as goal

pub answer_files-answer-requires-clause-log_synced : goal.answer_files-answer-requires-clause-log_synced
answer_files-answer-requires-clause-log_synced g c = c.in_ok-files.ensures.on_disk.0

pub answer_files-answer-requires-clause-db_synced : goal.answer_files-answer-requires-clause-db_synced
answer_files-answer-requires-clause-db_synced g c = c.in_ok-files.ensures.on_disk.1
