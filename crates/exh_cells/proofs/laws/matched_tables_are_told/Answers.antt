use Rattle.exh_cells.proofs.Matched.{matched_told}
use Rattle.exh_cells.proofs.laws.matched_tables_are_told.Goals as goal

pub returns : goal.returns
returns c = λ ward_bits lows cells tables fit are. matched_told ward_bits lows cells tables fit are
