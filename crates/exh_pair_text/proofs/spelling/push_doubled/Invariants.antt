use Rattle.std.proofs.Common.{◌≡◌, ◌++◌, take, flat_map}
use Rattle.exh_pair_text.specs.Rows.{doubled}
use Rattle.exh_pair_text.proofs.spelling.push_doubled.Given as goal

abbrev pub invariant-loop-byte : goal.invariant-loop-byte
invariant-loop-byte l = record {
  added : l.text.items ≡ l.fn.text.items ++ flat_map doubled (take l.byte-index l.bytes);
}
