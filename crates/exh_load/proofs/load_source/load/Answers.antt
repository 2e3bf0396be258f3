use Rattle.std.proofs.Common.{ap, rules}
use Rattle.exh_load.specs.Load.{IsLoadOf, beginning, load_of}
use Rattle.exh_load.proofs.Exits.{moved_err, moved_front, moved_ok}
use Rattle.exh_load.proofs.load_source.load.Goals as goal

pub returns-clause-ok : goal.returns-clause-ok
returns-clause-ok g c =
    moved_ok g.W.Write.contents (IsLoadOf (load_of (beginning c.args.from) c.args.limit)) _ _ _ _ c.load_all.new.output.writer.now _ (ap g.R.Read.remaining c.new.ensures.reads_from.1) c.new-2.ensures.writes_to.1 (search rules)
    c.load_all.result c.load_all.ensures.ok

pub returns-clause-err : goal.returns-clause-err
returns-clause-err g c =
    moved_err g.W.Write.contents (IsLoadOf (load_of (beginning c.args.from) c.args.limit)) _ _ _ _ c.load_all.new.output.writer.now _ (ap g.R.Read.remaining c.new.ensures.reads_from.1) c.new-2.ensures.writes_to.1 (search rules)
    c.load_all.result c.load_all.ensures.err

pub returns-clause-memory : goal.returns-clause-memory
returns-clause-memory g c =
    moved_front g.W.Write.contents (IsLoadOf (load_of (beginning c.args.from) c.args.limit)) _ _ _ _ c.load_all.new.output.writer.now _ (ap g.R.Read.remaining c.new.ensures.reads_from.1) c.new-2.ensures.writes_to.1 (search rules)
    c.load_all.result c.load_all.ensures.memory
