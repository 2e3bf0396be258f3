use Rattle.std.proofs.Common.{◌≡◌, ◌++◌, IsFalse, drop, flat_map}
use Rattle.exh_stream.specs.Output.{SameWriter, Takes, writer_failed}
use Rattle.exh_report.specs.ReportLines.{Lines, lines_text}
use Rattle.exh_report.specs.PairsText.{records_lines}
use Rattle.exh_report.proofs.pairs.tell_pages.Given as goal

-- some lines were taken, and those of the pages that are left are the others
abbrev pub invariant-loop-page : goal.invariant-loop-page
invariant-loop-page g l = record {
  same_writer : SameWriter l.fn.output l.output;
  open_still : IsFalse (writer_failed l.output);
  front : Lines;
  split : flat_map records_lines l.pages ≡ front ++ flat_map records_lines (drop l.page-index l.pages);
  passed : Takes g.W.Write.contents l.fn.output l.output (lines_text front);
}
