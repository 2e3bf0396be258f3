use Rattle.exh_ward.proofs.WardsOfNewFile.{AreNewWards}
use Rattle.exh_ward.proofs.new_file.new_wards.Given as goal

-- the wards of the numbers so far
abbrev pub invariant-loop-number : goal.invariant-loop-number
invariant-loop-number g l = AreNewWards g.K.Keyer.pseudokey_of l.settings l.number l.wards.items
