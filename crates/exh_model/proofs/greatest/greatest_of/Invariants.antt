use Rattle.std.proofs.Common.{take}
use Rattle.std.specs.Prelude.{map}
use Rattle.exh_table.specs.Table.{IsEntryOf, told_by}
use Rattle.exh_model.proofs.greatest.greatest_of.Given as goal

-- the greatest entry of the notices so far
abbrev pub invariant-loop-notice : goal.invariant-loop-notice
invariant-loop-notice l = IsEntryOf (map told_by (take l.notice-index l.notices)) l.prefix l.greatest
