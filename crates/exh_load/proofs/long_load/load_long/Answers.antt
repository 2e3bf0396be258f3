use Rattle.std.proofs.Common.{rules}
use Rattle.exh_load.specs.Load.{beginning}
use Rattle.exh_load.specs.LongLoad.{IsLongLoad}
use Rattle.exh_load.proofs.Exits.{moved_err, moved_front, moved_ok}
use Rattle.exh_load.proofs.long_load.load_long.Goals as goal

pub returns-clause-ok : goal.returns-clause-ok
returns-clause-ok g c =
    moved_ok g.W.Write.contents (IsLongLoad (beginning c.args.from)) _ _ _ _ c.load_all.new.output.writer.now _ c.new.ensures.text c.new-2.ensures.writes_to.1 (search rules)
    c.load_all.result c.load_all.ensures.ok

pub returns-clause-err : goal.returns-clause-err
returns-clause-err g c =
    moved_err g.W.Write.contents (IsLongLoad (beginning c.args.from)) _ _ _ _ c.load_all.new.output.writer.now _ c.new.ensures.text c.new-2.ensures.writes_to.1 (search rules)
    c.load_all.result c.load_all.ensures.err

pub returns-clause-memory : goal.returns-clause-memory
returns-clause-memory g c =
    moved_front g.W.Write.contents (IsLongLoad (beginning c.args.from)) _ _ _ _ c.load_all.new.output.writer.now _ c.new.ensures.text c.new-2.ensures.writes_to.1 (search rules)
    c.load_all.result c.load_all.ensures.memory
