use Rattle.std.proofs.Common.{◌≡◌, ◌∷◌, ◌++◌, length, take}
use Rattle.hex.specs.Hex.{encode_lower}
use Rattle.exh_text.specs.ByteWord.{hash}
use Rattle.exh_text.proofs.printing.push_value.Given as goal

abbrev pub invariant-loop-byte : goal.invariant-loop-byte
invariant-loop-byte l = (l.out.items ≡ l.fn.out.items ++ (hash ∷ encode_lower (take l.byte-index l.value))) × (length l.digits ≡ 2)
