use Rattle.std.proofs.Common.{map, arith}
use Rattle.exh_codec.specs.Cells.{pair_in}
use Rattle.exh_codec.proofs.PairImages.{no_more_cells}
use Rattle.exh_codec.proofs.cell.split_cells.Goals as goal

pub returns-in_err-cell-clause-none : goal.returns-in_err-cell-clause-none
returns-in_err-cell-clause-none c =
    rw c.from_residual.ensures (no_more_cells c.args.count c.loop.counter c.args.bytes.now (map pair_in c.loop.cells.items) c.loop.rest.now (omega arith) c.loop.invariant.cells c.in_err-cell.ensures.none)
