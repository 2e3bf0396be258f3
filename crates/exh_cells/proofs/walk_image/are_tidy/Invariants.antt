use Rattle.std.proofs.Common.{take}
use Rattle.std.specs.List.{AllByRecursion}
use Rattle.exh_cells.specs.WalkImage.{IsTidy}
use Rattle.exh_cells.proofs.walk_image.are_tidy.Given as goal

abbrev pub invariant-loop-cell : goal.invariant-loop-cell
invariant-loop-cell l = AllByRecursion IsTidy (take l.cell-index l.cells)
