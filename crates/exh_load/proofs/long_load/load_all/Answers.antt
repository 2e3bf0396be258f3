use Rattle.std.proofs.lemmas.Bool.{false≢true}
use Rattle.exh_stream.specs.OutputLemmas.{OnErr-from}
use Rattle.exh_load.specs.LineSource.{text_left}
use Rattle.exh_load.specs.Load.{beginning}
use Rattle.exh_load.specs.LongLoad.{IsLongLoad}
use Rattle.exh_load.proofs.Loads.{cut_err, finished_err, finished_front, finished_ok}
use Rattle.exh_load.proofs.LongLoads.{takes_err, takes_front, takes_ok}
use Rattle.exh_load.proofs.long_load.load_all.Goals as goal

pub returns-clause-ok : goal.returns-clause-ok
returns-clause-ok g c =
    let Is = IsLongLoad (beginning c.args.from) (text_left g.R.Read.remaining c.args.lines.now) in
    let took = takes_ok g.W.Write.contents Is c.args.output.now c.load_lines_of-loaded.new.output c.load_lines_of-loaded.result c.load_lines_of-loaded.ensures.loads in
    finished_ok g.W.Write.contents Is c.args.output.now c.load_lines_of-loaded.new.output c.finish.new.self c.requires.empty c.in_ok-finish.ensures.ok c.load_lines_of-loaded.result took

pub returns-clause-err : goal.returns-clause-err
returns-clause-err g c =
    let Is = IsLongLoad (beginning c.args.from) (text_left g.R.Read.remaining c.args.lines.now) in
    let took = takes_front g.W.Write.contents Is c.args.output.now c.load_lines_of-loaded.new.output c.load_lines_of-loaded.result c.load_lines_of-loaded.ensures.loads in
    finished_err g.W.Write.contents Is c.args.output.now c.load_lines_of-loaded.new.output c.finish.new.self c.requires.empty c.in_ok-finish.ensures.ok c.load_lines_of-loaded.result took
    (λ is. false≢true (c.in_ok-finish.ensures.closed (c.load_lines_of-loaded.ensures.failed.0 is)).0)

pub returns-in_err-finish-clause-err : goal.returns-in_err-finish-clause-err
returns-in_err-finish-clause-err g c =
    let Is = IsLongLoad (beginning c.args.from) (text_left g.R.Read.remaining c.args.lines.now) in
    let contents = g.W.Write.contents in
    let old = c.args.output.now in
    let mid = c.load_lines_of-loaded.new.output in
    let loaded = c.load_lines_of-loaded.result in
    let takes = c.load_lines_of-loaded.ensures.loads in
    OnErr-from c.from_residual.result (cut_err contents Is old mid c.finish.new.self c.requires.empty c.in_err-finish.ensures.err loaded (takes_ok contents Is old mid loaded takes) (takes_err contents Is old mid loaded takes) (takes_front contents Is old mid loaded takes)
    (λ is. (c.in_err-finish.ensures.closed (c.load_lines_of-loaded.ensures.failed.0 is)).1))

pub returns-clause-memory : goal.returns-clause-memory
returns-clause-memory g c =
    let Is = IsLongLoad (beginning c.args.from) (text_left g.R.Read.remaining c.args.lines.now) in
    let took = takes_front g.W.Write.contents Is c.args.output.now c.load_lines_of-loaded.new.output c.load_lines_of-loaded.result c.load_lines_of-loaded.ensures.loads in
    finished_front g.W.Write.contents Is c.args.output.now c.load_lines_of-loaded.new.output c.finish.new.self c.requires.empty c.in_ok-finish.ensures.ok c.load_lines_of-loaded.result took
