use Rattle.std.proofs.Common.{◌≡◌, map}
use Rattle.arrayvec.specs.ArrayVec.{array_vec_len}
use Rattle.exh_codec.specs.Cells.{AreCells, pair_in}
use Rattle.exh_codec.proofs.cell.split_cells.Given as goal

abbrev pub invariant-loop : goal.invariant-loop
invariant-loop l = record { cells : AreCells l.counter l.bytes (map pair_in l.cells.items) l.rest; len : array_vec_len l.cells ≡ l.counter }
