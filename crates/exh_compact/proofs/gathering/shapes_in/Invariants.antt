use Rattle.std.proofs.Common.{◌≡◌, ◌≤◌, length, map, take}
use Rattle.exh_compact.specs.Shape.{shape_of}
use Rattle.exh_compact.proofs.gathering.shapes_in.Given as goal

-- the shapes of the pages so far
abbrev pub invariant-pages : goal.invariant-pages
invariant-pages g l = record {
  within : l.number ≤ length l.fn.ward.pages;
  shapes : l.shapes.items ≡ map shape_of (take l.number l.fn.ward.pages);
  same : l.ward ≡ l.fn.ward;
}
