use Rattle.std.proofs.Common.{◌≡◌, ◌++◌, IsFalse, drop, flat_map, map}
use Rattle.exh_stream.specs.Output.{SameWriter, Takes, writer_failed}
use Rattle.exh_report.specs.ReportLines.{Lines, lines_text}
use Rattle.exh_report.specs.PairsText.{records_lines}
use Rattle.exh_report.proofs.pairs.tell_wards.Given as goal

-- some lines were taken, and those of the wards that are left are the others
abbrev pub invariant-loop-ward : goal.invariant-loop-ward
invariant-loop-ward g l = record {
  same_writer : SameWriter l.fn.output l.output;
  open_still : IsFalse (writer_failed l.output);
  front : Lines;
  split : flat_map (flat_map records_lines) (map (λ ward. ward.items) l.wards) ≡ front ++ flat_map (flat_map records_lines) (map (λ ward. ward.items) (drop l.ward-index l.wards));
  passed : Takes g.W.Write.contents l.fn.output l.output (lines_text front);
}
