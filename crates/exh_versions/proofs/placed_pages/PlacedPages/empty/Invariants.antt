use Rattle.std.proofs.Common.{◌≡◌, ℕ, [], Some, length}
use Rattle.std.specs.Prelude.{slice_get}
use Rattle.exh_keyer.specs.Pseudokey.{any_pseudokey}
use Rattle.exh_format.specs.FileParts.{TakesFormed}
use Rattle.exh_versions.proofs.placed_pages.PlacedPages.empty.Given as goal

abbrev pub invariant-loop-number : goal.invariant-loop-number
invariant-loop-number g l = record {
  count : length l.wards.items ≡ l.number;
  each : (number : ℕ) (ward : g.row.W.Denot) → slice_get l.wards.items number ≡ Some ward → g.W.PageList.pages ward ≡ [];
  taking : (number : ℕ) (ward : g.row.W.Denot) → slice_get l.wards.items number ≡ Some ward → TakesFormed g.W.ReadPages.takes (any_pseudokey l.settings.keyer) ward;
}
