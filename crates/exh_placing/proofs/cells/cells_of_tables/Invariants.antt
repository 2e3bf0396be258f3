use Rattle.std.proofs.Common.{◌≡◌, ℕ, ◌<◌, length, take, get_or}
use Rattle.exh_cells.specs.Fit.{pages_in}
use Rattle.exh_placing.proofs.Made.{AreMadeCells}
use Rattle.exh_placing.proofs.cells.cells_of_tables.Given as goal

abbrev pub invariant-loop-place : goal.invariant-loop-place
invariant-loop-place g l = record {
  long : length l.found ≡ 16;
  found_are : (ward : ℕ) → ward < 16 → get_or l.found ward 0 ≡ pages_in l.ward_bits ward (take l.place l.lows);
  count : length l.cells.items ≡ l.place;
  made : AreMadeCells l.ward_bits l.lows (g.T.TableList.tables l.tables) l.places.entries l.place l.cells.items;
}
