use Rattle.std.proofs.Common.{◌≡◌, ◌≤◌, ◌-◌, IsFalse, length, take}
use Rattle.std.specs.Io.KnownBytes.{Consumes}
use Rattle.exh_stream.specs.Source.{SameReader, reader_failed, unread}
use Rattle.exh_stream.proofs.source.Source.fill.Given as goal

-- what came stands at the front of the block
abbrev pub invariant-loop-filled : goal.invariant-loop-filled
invariant-loop-filled g l = record {
  same_reader : SameReader l.initial.self l.self;
  open_still : IsFalse (reader_failed l.self);
  len : length l.block ≡ length l.initial.block;
  within : l.filled ≤ length l.block;
  given : Consumes (unread g.R.Read.remaining l.initial.self) (unread g.R.Read.remaining l.self) (take l.filled l.block);
}

abbrev pub decreases-loop-filled : goal.decreases-loop-filled
decreases-loop-filled g l = length l.initial.block - l.filled
