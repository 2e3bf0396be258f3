use Rattle.std.proofs.lemmas.Bool.{false≢true}
use Rattle.exh_stream.specs.OutputLemmas.{OnErr-from}
use Rattle.exh_stream.specs.Source.{reader_failed, unread}
use Rattle.exh_load.proofs.Loads.{cut_err, finished_err, finished_front, finished_ok, finished_printed}
use Rattle.exh_load.specs.Load.{IsLoadBy, IsLoadOf, beginning, load_of}
use Rattle.exh_load.proofs.load_source.load_all.Goals as goal

pub returns-clause-ok : goal.returns-clause-ok
returns-clause-ok g c =
    finished_ok g.W.Write.contents (IsLoadOf (load_of (beginning c.args.from) c.args.limit) (unread g.R.Read.remaining c.args.source.now)) c.args.output.now c.load_source-loaded.new.output c.finish.new.self c.requires.empty c.in_ok-finish.ensures.ok c.load_source-loaded.result c.load_source-loaded.ensures.ok

pub returns-clause-err : goal.returns-clause-err
returns-clause-err g c =
    finished_err g.W.Write.contents (IsLoadOf (load_of (beginning c.args.from) c.args.limit) (unread g.R.Read.remaining c.args.source.now)) c.args.output.now c.load_source-loaded.new.output c.finish.new.self c.requires.empty c.in_ok-finish.ensures.ok c.load_source-loaded.result c.load_source-loaded.ensures.front
    (λ is. false≢true (c.in_ok-finish.ensures.closed (c.load_source-loaded.ensures.failed.0 is)).0)

pub returns-in_err-finish-clause-err : goal.returns-in_err-finish-clause-err
returns-in_err-finish-clause-err g c =
    OnErr-from c.from_residual.result (cut_err g.W.Write.contents (IsLoadOf (load_of (beginning c.args.from) c.args.limit) (unread g.R.Read.remaining c.args.source.now)) c.args.output.now c.load_source-loaded.new.output c.finish.new.self c.requires.empty c.in_err-finish.ensures.err c.load_source-loaded.result
    c.load_source-loaded.ensures.ok c.load_source-loaded.ensures.err c.load_source-loaded.ensures.front (λ is. (c.in_err-finish.ensures.closed (c.load_source-loaded.ensures.failed.0 is)).1))

pub returns-clause-memory : goal.returns-clause-memory
returns-clause-memory g c =
    finished_front g.W.Write.contents (IsLoadOf (load_of (beginning c.args.from) c.args.limit) (unread g.R.Read.remaining c.args.source.now)) c.args.output.now c.load_source-loaded.new.output c.finish.new.self c.requires.empty c.in_ok-finish.ensures.ok c.load_source-loaded.result c.load_source-loaded.ensures.front

pub returns-clause-reader : goal.returns-clause-reader
returns-clause-reader g c =
    finished_printed g.W.Write.contents (IsLoadBy (load_of (beginning c.args.from) c.args.limit) (unread g.R.Read.remaining c.args.source.now) (reader_failed c.load_source-loaded.new.source)) c.args.output.now c.load_source-loaded.new.output c.finish.new.self c.requires.empty c.in_ok-finish.ensures.ok c.load_source-loaded.result
    c.load_source-loaded.ensures.reader
