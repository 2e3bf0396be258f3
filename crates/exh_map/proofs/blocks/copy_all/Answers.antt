use Rattle.std.proofs.lemmas.Result.{on_ok_weaker}
use Rattle.exh_map.proofs.CopyLemmas.{whole_copy}
use Rattle.exh_map.proofs.blocks.copy_all.Goals as goal

pub returns-clause-copied : goal.returns-clause-copied
returns-clause-copied g c =
    on_ok_weaker c.finish.result (λ put. whole_copy (g.B.Blocks.known c.args.source.now) (g.T.Target.has c.args.copy.now) (g.T.Target.has c.copy_rest.new.copy) (g.T.Target.has c.finish.new.copy) c.in_ok-first.first c.in_ok-first.ensures.first c.in_ok-first.ensures.rest put) c.finish.ensures.put
