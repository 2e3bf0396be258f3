use Rattle.std.proofs.Common.{◌≡◌, ◌⊎◌, ℕ, ◌≤◌, [], length, map, slice_get, Some}
use Rattle.std.specs.Prelude.{Contains, ◌<◌}
use Rattle.exh_compact.specs.declared.page_shape.PageShape.{PageShape}
use Rattle.exh_compact.proofs.counting.longest.Given as goal

-- the longest so far
abbrev pub invariant-loop-shape : goal.invariant-loop-shape
invariant-loop-shape l = record {
  most : (k : ℕ) (shape : PageShape) → k < l.shape-index → slice_get l.shapes k ≡ Some shape → length shape.prefix ≤ length l.longest;
  there : (l.longest ≡ []) ⊎ Contains (map (λ (shape : PageShape). shape.prefix) l.shapes) l.longest;
}
