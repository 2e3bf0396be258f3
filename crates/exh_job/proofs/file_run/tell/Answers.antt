use Rattle.std.proofs.Common.{subst, sym}
use Rattle.exh_stream.specs.Output.{held}
use Rattle.exh_report.specs.Report.{Reports}
use Rattle.exh_job.specs.FileRun.{lines_about}
use Rattle.exh_job.proofs.file_run.tell.Goals as goal

pub returns-in-Size-clause-told : goal.returns-in-Size-clause-told
returns-in-Size-clause-told g c =
    subst (λ topic. Reports (lines_about topic) (held g.W.Write.contents c.args.output.now) (held g.W.Write.contents c.check_onto.new.output) (g.R.Read.remaining c.args.reader.now) c.check_onto.result) (sym c.in-Size.is) c.check_onto.ensures.told

pub returns-in-Content-clause-told : goal.returns-in-Content-clause-told
returns-in-Content-clause-told g c =
    subst (λ topic. Reports (lines_about topic) (held g.W.Write.contents c.args.output.now) (held g.W.Write.contents c.dump_onto.new.output) (g.R.Read.remaining c.args.reader.now) c.dump_onto.result) (sym c.in-Content.is) c.dump_onto.ensures.told

pub returns-in-Pairs-clause-told : goal.returns-in-Pairs-clause-told
returns-in-Pairs-clause-told g c =
    subst (λ topic. Reports (lines_about topic) (held g.W.Write.contents c.args.output.now) (held g.W.Write.contents c.pairs_onto.new.output) (g.R.Read.remaining c.args.reader.now) c.pairs_onto.result) (sym c.in-Pairs.is) c.pairs_onto.ensures.told
