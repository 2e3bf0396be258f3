use Rattle.std.proofs.Common.{◌≡◌, ◌++◌, IsFalse, drop, flat_map, map}
use Rattle.std.specs.List.{enumerate_from}
use Rattle.exh_stream.specs.Output.{SameWriter, Takes, writer_failed}
use Rattle.exh_report.specs.Dump.{ward_lines}
use Rattle.exh_report.specs.ReportLines.{Lines, lines_text}
use Rattle.exh_report.proofs.dump.dump_wards.Given as goal

-- some lines were taken, and those of the wards that are left are the others
abbrev pub invariant-loop-number : goal.invariant-loop-number
invariant-loop-number g l = record {
  same_writer : SameWriter l.fn.output l.output;
  open_still : IsFalse (writer_failed l.output);
  front : Lines;
  split : flat_map ward_lines (enumerate_from 0 (map (λ ward. ward.items) l.wards)) ≡ front ++ flat_map ward_lines (enumerate_from l.number (map (λ ward. ward.items) (drop l.number l.wards)));
  passed : Takes g.W.Write.contents l.fn.output l.output (lines_text front);
}
