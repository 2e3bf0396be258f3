use Rattle.std.proofs.Common.{sym, subst}
use Rattle.exh_stream.specs.Output.{Takes}
use Rattle.exh_format.specs.FileParts.{file_of}
use Rattle.exh_report.specs.ReportLines.{lines_text}
use Rattle.exh_report.specs.Report.{topic_lines}
use Rattle.exh_report.proofs.report.tell_parts.Goals as goal

pub returns-in_ok-check_parts-in-Size-clause-told : goal.returns-in_ok-check_parts-in-Size-clause-told
returns-in_ok-check_parts-in-Size-clause-told g c =
    subst (λ topic. Takes g.W.Write.contents c.args.output.now c.check_parts.new.output (lines_text (topic_lines topic (file_of c.args.parts.now)))) (sym c.in-Size.is) c.in_ok-check_parts-in-Size.ensures.told

pub returns-in_ok-dump_parts-in-Content-clause-told : goal.returns-in_ok-dump_parts-in-Content-clause-told
returns-in_ok-dump_parts-in-Content-clause-told g c =
    subst (λ topic. Takes g.W.Write.contents c.args.output.now c.dump_parts.new.output (lines_text (topic_lines topic (file_of c.args.parts.now)))) (sym c.in-Content.is) c.in_ok-dump_parts-in-Content.ensures.told

pub returns-in_ok-pairs_parts-in-Pairs-clause-told : goal.returns-in_ok-pairs_parts-in-Pairs-clause-told
returns-in_ok-pairs_parts-in-Pairs-clause-told g c =
    subst (λ topic. Takes g.W.Write.contents c.args.output.now c.pairs_parts.new.output (lines_text (topic_lines topic (file_of c.args.parts.now)))) (sym c.in-Pairs.is) c.in_ok-pairs_parts-in-Pairs.ensures.told
