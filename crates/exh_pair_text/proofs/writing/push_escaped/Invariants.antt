use Rattle.std.proofs.Common.{◌≡◌, ◌++◌, take, flat_map}
use Rattle.exh_pair_text.specs.Bytes.{byte_text}
use Rattle.exh_pair_text.proofs.writing.push_escaped.Given as goal

abbrev pub invariant-loop-byte : goal.invariant-loop-byte
invariant-loop-byte l = record {
  added : l.text.items ≡ l.fn.text.items ++ flat_map byte_text (take l.byte-index l.bytes);
}
