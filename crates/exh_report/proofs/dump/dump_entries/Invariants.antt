use Rattle.std.proofs.Common.{◌≡◌, ◌++◌, IsFalse, drop, map}
use Rattle.exh_stream.specs.Output.{SameWriter, Takes, writer_failed}
use Rattle.exh_report.specs.Dump.{item_words}
use Rattle.exh_report.specs.ReportLines.{Lines, lines_text}
use Rattle.exh_report.proofs.dump.dump_entries.Given as goal

-- some lines were taken, and those of the entries that are left are the others
abbrev pub invariant-loop-item : goal.invariant-loop-item
invariant-loop-item g l = record {
  same_writer : SameWriter l.fn.output l.output;
  open_still : IsFalse (writer_failed l.output);
  front : Lines;
  split : map item_words l.entries ≡ front ++ map item_words (drop l.item-index l.entries);
  passed : Takes g.W.Write.contents l.fn.output l.output (lines_text front);
}
