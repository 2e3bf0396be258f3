use Rattle.exh_commit.specs.PagedFile.{bytes_in, state_in}
use Rattle.exh_paged.proofs.draft_saving.save_files.Given as goal

abbrev pub ghosts-edits_to : goal.ghosts-edits_to
ghosts-edits_to g a = record { is_ready = (state_in a.file).is_ready; is_clean = (state_in a.file).is_clean; bytes = bytes_in a.file }
