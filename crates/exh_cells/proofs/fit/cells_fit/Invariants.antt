use Rattle.std.proofs.Common.{◌≡◌, ℕ, ◌<◌, ◌^◌, Some, length, take, get_or}
use Rattle.std.specs.List.{slice_get}
use Rattle.exh_prefix.specs.Leading.{ward_of}
use Rattle.exh_cells.specs.declared.cell.Cell.{Cell}
use Rattle.exh_cells.specs.Fit.{FitsCell, pages_in}
use Rattle.exh_cells.proofs.fit.cells_fit.Given as goal

abbrev pub invariant-loop-place : goal.invariant-loop-place
invariant-loop-place l = record {
  long : length l.found ≡ 16;
  found_are : (ward : ℕ) → ward < 16 → get_or l.found ward 0 ≡ pages_in l.ward_bits ward (take l.place l.lows);
  firsts : (place low : ℕ) → place < l.place → place < 2 ^ l.ward_bits → slice_get l.lows place ≡ Some low → ward_of l.ward_bits low ≡ place;
  each : (place low : ℕ) (cell : Cell) → place < l.place → slice_get l.lows place ≡ Some low → slice_get l.cells place ≡ Some cell → FitsCell l.ward_bits l.lows place low cell;
}
