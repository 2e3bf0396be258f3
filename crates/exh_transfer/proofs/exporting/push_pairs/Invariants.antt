use Rattle.std.proofs.Common.{◌≡◌, ◌++◌, flat_map}
use Rattle.exh_transfer.specs.Exports.{line_of_pair}
use Rattle.exh_transfer.proofs.exporting.push_pairs.Given as goal

-- the lines of the pairs so far
abbrev pub invariant-loop-key : goal.invariant-loop-key
invariant-loop-key l = record {
  all : l.fn.pairs ≡ l.yielded ++ l.key-iterator;
  text : l.text.items ≡ l.fn.text.items ++ flat_map (line_of_pair l.format l.is_hex) l.yielded;
}
