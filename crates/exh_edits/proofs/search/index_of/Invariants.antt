use Rattle.std.proofs.Common.{◌≡◌, nat_eq, false, take}
use Rattle.std.specs.List.{list_any}
use Rattle.exh_edits.specs.WalkBlocks.{groups_read}
use Rattle.exh_edits.proofs.search.index_of.Given as goal

abbrev pub invariant-loop-index : goal.invariant-loop-index
invariant-loop-index l = list_any (nat_eq l.group) (groups_read (take l.index l.read)) ≡ false
