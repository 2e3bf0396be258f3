use Rattle.std.proofs.Common.{drop}
use Rattle.exh_copy.proofs.writer.published_all.Given as goal

-- the batch is what is pending
abbrev pub ghosts-published_batch : goal.ghosts-published_batch
ghosts-published_batch g a = record { additions = drop a.writer.behind a.writer.log.items }
