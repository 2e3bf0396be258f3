use Rattle.std.proofs.Common.{take}
use Rattle.std.specs.List.{AllByRecursion}
use Rattle.exh_cells.specs.WalkImage.{IsTidySlot}
use Rattle.exh_cells.proofs.walk_image.are_slots_tidy.Given as goal

abbrev pub invariant-loop-slot : goal.invariant-loop-slot
invariant-loop-slot l = AllByRecursion IsTidySlot (take l.slot-index l.slots)
