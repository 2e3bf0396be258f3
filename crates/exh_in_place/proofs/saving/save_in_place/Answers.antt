use Rattle.exh_in_place.proofs.saving.save_in_place.Goals as goal

pub save_files-saved-requires-clause-log_synced : goal.save_files-saved-requires-clause-log_synced
save_files-saved-requires-clause-log_synced g c = c.in_ok-files.ensures.on_disk.0

pub save_files-saved-requires-clause-db_synced : goal.save_files-saved-requires-clause-db_synced
save_files-saved-requires-clause-db_synced g c = c.in_ok-files.ensures.on_disk.1
