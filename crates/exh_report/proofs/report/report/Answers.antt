use Rattle.std.proofs.Common.{◌≡◌, false, true}
use Rattle.exh_stream.specs.Output.{AppendsBeginning, held}
use Rattle.std.specs.Io.KnownBytes.{Appends}
use Rattle.exh_report.specs.Finding.{told_lines}
use Rattle.exh_report.specs.Report.{topic_lines}
use Rattle.exh_report.proofs.Reported.{cut, cut_tells, finished}
use Rattle.exh_report.proofs.report.report.Goals as goal

pub returns-clause-told : goal.returns-clause-told
returns-clause-told g c =
    let told = c.tell-told.ensures.told in
    record {
      finding = told.finding;
      found = told.found;
      printed = finished g.W.Write.contents c.args.output.now c.tell-told.new.output c.finish.new.self c.requires.empty (told_lines (topic_lines c.args.topic) told.finding) c.tell-told.result told.printed
          c.in_ok-finish.ensures.ok (λ is. let never : false ≡ true = (c.in_ok-finish.ensures.closed (c.tell-told.ensures.failed.0 is)).0 in cc);
      verdict = told.verdict;
    }

pub returns-in_err-finish-clause-told : goal.returns-in_err-finish-clause-told
returns-in_err-finish-clause-told g c =
    let told = c.tell-told.ensures.told in
    cut_tells (Appends (held g.W.Write.contents c.args.output.now) (held g.W.Write.contents c.finish.new.self)) (AppendsBeginning (held g.W.Write.contents c.args.output.now) (held g.W.Write.contents c.finish.new.self))
    (topic_lines c.args.topic) (g.R.Read.remaining c.args.reader.now) told.finding told.found c.from_residual.result c.from_residual.ensures
    (cut g.W.Write.contents c.args.output.now c.tell-told.new.output c.finish.new.self c.requires.empty (told_lines (topic_lines c.args.topic) told.finding) c.tell-told.result told.printed c.in_err-finish.ensures.err
    (λ is. (c.in_err-finish.ensures.closed (c.tell-told.ensures.failed.0 is)).1))
