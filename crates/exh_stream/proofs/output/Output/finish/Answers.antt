use Rattle.exh_stream.specs.OutputLemmas.{AppendsAllBut-start, AppendsBeginning-from}
use Rattle.exh_stream.proofs.output.Output.finish.Goals as goal

pub returns-then-self-clause-err : goal.returns-then-self-clause-err
returns-then-self-clause-err g c = AppendsBeginning-from (AppendsAllBut-start _ _)
