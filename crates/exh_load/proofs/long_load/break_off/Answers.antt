use Rattle.exh_stream.specs.OutputLemmas.{TakesBeginning-none}
use Rattle.exh_load.proofs.Loads.{front_none}
use Rattle.exh_load.proofs.long_load.break_off.Goals as goal

pub returns-in-Memory-clause-err : goal.returns-in-Memory-clause-err
returns-in-Memory-clause-err g c = TakesBeginning-none g.W.Write.contents c.args.output.now _

pub returns-in-Memory-clause-front : goal.returns-in-Memory-clause-front
returns-in-Memory-clause-front g c = λ other. front_none g.W.Write.contents c.args.output.now _
