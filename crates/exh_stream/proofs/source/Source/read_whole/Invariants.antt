use Rattle.std.proofs.Common.{◌≤◌, ◌-◌, IsFalse, vec_len}
use Rattle.std.specs.Io.KnownBytes.{Consumes}
use Rattle.exh_stream.specs.Source.{SameReader, reader_failed, unread}
use Rattle.exh_stream.proofs.source.Source.read_whole.Given as goal

-- what came is all there
abbrev pub invariant-loop-asked : goal.invariant-loop-asked
invariant-loop-asked g l = record {
  same_reader : SameReader l.initial.self l.self;
  open_still : IsFalse (reader_failed l.self);
  given : Consumes (unread g.R.Read.remaining l.initial.self) (unread g.R.Read.remaining l.self) l.bytes.items;
  within : vec_len l.bytes ≤ l.limit;
}

abbrev pub decreases-loop-asked : goal.decreases-loop-asked
decreases-loop-asked g l = l.limit - vec_len l.bytes
