use Rattle.std.proofs.Common.{◌+◌, ◌≤◌, ap, length, take, arith}
use Rattle.std.proofs.lemmas.List.{length-take-le}
use Rattle.exh_cells.proofs.CellBytes.{length-cells}
use Rattle.exh_cells.proofs.walk_image.push_cells.Goals as goal

pub push_to-requires : goal.push_to-requires
push_to-requires c =
    let cells = c.args.cells.now in
    let room : length c.loop-cell.bytes.items + 164 ≤ 4064 =
    omega (arith, ap length c.loop-cell.invariant.bytes_are, length-cells (take c.loop-cell.cell-index cells) c.loop-cell.invariant.read, length-take-le c.loop-cell.cell-index cells (omega arith), c.requires.few) in
    room
