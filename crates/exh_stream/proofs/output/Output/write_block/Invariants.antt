use Rattle.std.proofs.Common.{◌≡◌, [], ◌≤◌, ◌-◌, length, drop, IsFalse}
use Rattle.exh_stream.specs.Output.{AppendsAllBut, SameWriter, WriterUntouched, held, pending, writer_failed}
use Rattle.exh_stream.proofs.output.Output.write_block.Given as goal

-- so many bytes of the block were written
abbrev pub invariant-loop-written : goal.invariant-loop-written
invariant-loop-written g l =
    let contents = g.W.Write.contents in
    record {
      same_writer : SameWriter l.initial.self l.self;
      block : pending l.self ≡ pending l.initial.self;
      open_still : IsFalse (writer_failed l.self);
      untouched : pending l.initial.self ≡ [] → WriterUntouched l.initial.self l.self;
      within : l.written ≤ length (pending l.self);
      gone : AppendsAllBut (held contents l.initial.self) (held contents l.self) (pending l.initial.self) (drop l.written (pending l.self));
    }

abbrev pub decreases-loop-written : goal.decreases-loop-written
decreases-loop-written g l = length (pending l.self) - l.written
