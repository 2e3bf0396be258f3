use Rattle.exh_live.specs.Rounds.{AreToldCursors}
use Rattle.exh_live.proofs.cursors.Cursors.new.Given as goal

-- the cursors of the wards so far
abbrev pub invariant-loop-number : goal.invariant-loop-number
invariant-loop-number l = AreToldCursors l.ward_bits l.table l.number l.of_wards.items
