use Rattle.exh_commit.specs.PagedFile.{bytes_in, state_in}
use Rattle.exh_commit.proofs.paged_file.PagedFile.change.Given as goal

abbrev pub ghosts-ask : goal.ghosts-ask
ghosts-ask g a = record { is_ready = (state_in a.file).is_ready; is_clean = (state_in a.file).is_clean; bytes = bytes_in a.file }
