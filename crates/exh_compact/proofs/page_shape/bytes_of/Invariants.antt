use Rattle.std.proofs.Common.{◌≡◌, ◌*◌, ◌≤◌, ◌++◌, length}
use Rattle.exh_compact.specs.Shape.{bytes_of}
use Rattle.exh_compact.proofs.page_shape.bytes_of.Given as goal

-- the bytes of the records so far
abbrev pub invariant-loop-item : goal.invariant-loop-item
invariant-loop-item l = record {
  all : l.records ≡ l.yielded ++ l.item-iterator;
  bytes : l.bytes ≡ bytes_of l.yielded;
  few : l.bytes ≤ 194 * length l.yielded;
}
