use Rattle.std.proofs.Common.{take}
use Rattle.exh_everyday.specs.Founds.{AreOfFile}
use Rattle.exh_everyday.proofs.key_values.find_all.Given as goal

-- the keys so far are found
abbrev pub invariant-loop-key : goal.invariant-loop-key
invariant-loop-key g l = AreOfFile (g.F.OpenFile.known l.file) (take l.key-index l.keys) l.fn.found l.found
