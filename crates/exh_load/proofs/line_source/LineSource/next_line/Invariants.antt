use Rattle.std.proofs.Common.{◌≡◌, List, ℕ, length, take}
use Rattle.exh_stream.specs.Source.{SameReader}
use Rattle.exh_load.specs.LineSource.{AreTaken, EndsRight}
use Rattle.exh_load.specs.declared.line_source.TheConstants.{LINE_LEN}
use Rattle.exh_load.proofs.TextLines.{IsAmid}
use Rattle.exh_load.proofs.line_source.LineSource.next_line.Given as goal

-- the bytes that were taken have no line yet but the one that is begun, whose first bytes are kept
abbrev pub invariant-bytes : goal.invariant-bytes
invariant-bytes g l = record {
  same_reader : SameReader l.fn.self.source l.self.source;
  ends : EndsRight g.R.Read.remaining l.self;
  given : List ℕ;
  line : List ℕ;
  taken : AreTaken g.R.Read.remaining l.fn.self l.self given;
  amid : IsAmid given line;
  short : l.self.line.items ≡ take LINE_LEN line;
  counted : length given ≡ l._byte;
}
