use Rattle.std.proofs.Common.{ℕ, List, OnErr, OnOk, subst}
use Rattle.exh_stream.specs.Output.{Takes, TakesBeginning}
use Rattle.exh_cells.specs.PlacedFile.{stamped_block}
use Rattle.exh_placing.proofs.writing.write_header.Goals as goal

pub returns-clause-ok : goal.returns-clause-ok
unfolding stamped_block
returns-clause-ok g c = subst (λ (bytes : List ℕ). OnOk c.push.result (Takes g.W.Write.contents c.args.output.now c.push.new.self bytes)) c.to_block.ensures.whole c.push.ensures.ok

pub returns-clause-err : goal.returns-clause-err
unfolding stamped_block
returns-clause-err g c = subst (λ (bytes : List ℕ). OnErr c.push.result (TakesBeginning g.W.Write.contents c.args.output.now c.push.new.self bytes)) c.to_block.ensures.whole c.push.ensures.err
