use Rattle.std.proofs.Common.{◌≡◌, take}
use Rattle.std.specs.List.{AllByRecursion, flat_map}
use Rattle.exh_cells.specs.WalkImage.{IsRead, cell_bytes}
use Rattle.exh_cells.proofs.walk_image.push_cells.Given as goal

abbrev pub invariant-loop-cell : goal.invariant-loop-cell
invariant-loop-cell l = record {
  bytes_are : l.bytes.items ≡ flat_map cell_bytes (take l.cell-index l.cells);
  read : AllByRecursion IsRead (take l.cell-index l.cells);
}
