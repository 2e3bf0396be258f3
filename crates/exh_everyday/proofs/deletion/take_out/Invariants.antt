use Rattle.std.proofs.Common.{take}
use Rattle.exh_everyday.specs.Founds.{AreTaken}
use Rattle.exh_everyday.proofs.deletion.take_out.Given as goal

-- the keys so far are taken out
abbrev pub invariant-loop-key : goal.invariant-loop-key
invariant-loop-key l = AreTaken l.fn.store.map (take l.key-index l.keys) l.fn.found l.found l.store.map
