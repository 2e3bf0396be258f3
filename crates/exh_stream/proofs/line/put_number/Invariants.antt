use Rattle.std.proofs.Common.{◌≡◌, ◌+◌, ◌*◌, ◌≤◌, ◌++◌, length}
use Rattle.exh_stream.specs.Line.{in_threes}
use Rattle.exh_stream.proofs.line.put_number.Given as goal

abbrev pub invariant-loop-rest : goal.invariant-loop-rest
invariant-loop-rest l = record {
  text : l.line.items ++ in_threes l.rest ≡ l.initial.line.items ++ in_threes l.initial.rest;
  room : length l.line.items + 2 * length l.rest ≤ 320;
}

abbrev pub decreases-loop-rest : goal.decreases-loop-rest
decreases-loop-rest l = length l.rest
