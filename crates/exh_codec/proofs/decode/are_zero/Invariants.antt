use Rattle.std.proofs.Common.{◌↔◌, ◌≡◌, take}
use Rattle.exh_codec.specs.Block.{AreZero}
use Rattle.exh_codec.proofs.decode.are_zero.Given as goal

abbrev pub invariant-loop-byte : goal.invariant-loop-byte
invariant-loop-byte l = (l.set ≡ 0) ↔ AreZero (take l.byte-index l.bytes)
