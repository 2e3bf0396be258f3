use Rattle.std.proofs.Common.{◌+◌, ◌≤◌, ◌++◌, length, IsFalse}
use Rattle.exh_stream.specs.declared.TheConstants.{BLOCK}
use Rattle.exh_stream.specs.Output.{AppendsAllBut, SameWriter, WriterUntouched, held, pending, writer_failed}
use Rattle.exh_stream.proofs.output.Output.push.Given as goal

-- of what waited and of the bytes, the rest hasn't been taken, and the block waits
abbrev pub invariant-loop-rest : goal.invariant-loop-rest
invariant-loop-rest g l =
    let contents = g.W.Write.contents in
    record {
      same_writer : SameWriter l.initial.self l.self;
      open_still : IsFalse (writer_failed l.self);
      gone : AppendsAllBut (held contents l.initial.self) (held contents l.self) (pending l.initial.self ++ l.initial.rest) (pending l.self ++ l.rest);
      waits : length (pending l.initial.self) + length l.initial.rest ≤ BLOCK → (length (pending l.self) + length l.rest ≤ BLOCK) × (WriterUntouched l.initial.self l.self);
    }

abbrev pub decreases-loop-rest : goal.decreases-loop-rest
decreases-loop-rest g l = length l.rest
