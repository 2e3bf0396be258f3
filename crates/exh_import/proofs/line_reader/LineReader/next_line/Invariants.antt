use Rattle.std.proofs.Common.{◌≡◌, ◌≢◌, [], length}
use Rattle.exh_stream.specs.Source.{SameReader}
use Rattle.exh_pair_text.specs.declared.place.Place.TheVariants.{Start}
use Rattle.exh_pair_text.specs.Places.{place_behind}
use Rattle.exh_pair_text.specs.Records.{IsOneLine, place_by}
use Rattle.exh_import.specs.LineReader.{AreTaken, EndsRight, waiting}
use Rattle.exh_import.proofs.line_reader.LineReader.next_line.Given as goal

-- the bytes that were taken are those of the line
abbrev pub invariant-bytes : goal.invariant-bytes
invariant-bytes g l = record {
  same_reader : SameReader l.fn.self.source l.self.source;
  ends : EndsRight g.R.Read.remaining l.self;
  taken : AreTaken g.R.Read.remaining l.fn.self l.self l.self.line.items;
  place : l.place ≡ place_behind (place_by l.format) Start l.self.line.items;
  one : IsOneLine l.format l.self.line.items;
  some : l.self.line.items ≡ [] → waiting l.self ≢ [];
  counted : length l.self.line.items ≡ l._byte;
}
