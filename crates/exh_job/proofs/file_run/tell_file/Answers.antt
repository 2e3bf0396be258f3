use Rattle.exh_job.proofs.PairsAgain.{tells_again}
use Rattle.exh_job.proofs.file_run.tell_file.Goals as goal

pub returns-in-Ok-clause-again : goal.returns-in-Ok-clause-again
returns-in-Ok-clause-again g c = tells_again c.pairs_load_again.ensures c.args.topic

pub returns-in-Err-clause-again : goal.returns-in-Err-clause-again
returns-in-Err-clause-again g c = tells_again c.pairs_load_again.ensures c.args.topic
