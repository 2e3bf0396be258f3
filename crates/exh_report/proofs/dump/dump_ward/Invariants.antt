use Rattle.std.proofs.Common.{◌≡◌, ◌++◌, IsFalse, drop, flat_map}
use Rattle.std.specs.List.{enumerate_from}
use Rattle.exh_stream.specs.Output.{SameWriter, Takes, writer_failed}
use Rattle.exh_report.specs.Dump.{page_lines, ward_lines}
use Rattle.exh_report.specs.ReportLines.{Lines, lines_text}
use Rattle.exh_report.proofs.dump.dump_ward.Given as goal

-- some lines were taken, and those of the pages that are left are the others
abbrev pub invariant-loop-number : goal.invariant-loop-number
invariant-loop-number g l = record {
  same_writer : SameWriter l.fn.output l.output;
  open_still : IsFalse (writer_failed l.output);
  front : Lines;
  split : ward_lines (l.ward, l.pages) ≡ front ++ flat_map (page_lines l.ward) (enumerate_from l.number (drop l.number l.pages));
  passed : Takes g.W.Write.contents l.fn.output l.output (lines_text front);
}
