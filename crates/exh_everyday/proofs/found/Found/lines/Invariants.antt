use Rattle.std.proofs.Common.{◌≡◌, ◌++◌, flat_map}
use Rattle.exh_everyday.specs.Answers.{pair_line}
use Rattle.exh_everyday.proofs.found.Found.lines.Given as goal

-- the lines of the pairs so far
abbrev pub invariant-loop-key : goal.invariant-loop-key
invariant-loop-key l = record {
  all : l.fn.self.pairs ≡ l.yielded ++ l.key-iterator;
  text : l.text.items ≡ flat_map (pair_line l.words l.is_hex) l.yielded;
}
