use Rattle.std.proofs.Common.{◌*◌, drop}
use Rattle.exh_cells.specs.WalkImage.{AreCells}
use Rattle.exh_cells.proofs.walk_image.cells_in.Given as goal

abbrev pub invariant-loop-number : goal.invariant-loop-number
invariant-loop-number l = AreCells l.number l.bytes l.cells.items (drop (164 * l.number) l.bytes)
