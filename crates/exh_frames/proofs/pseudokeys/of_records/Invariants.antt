use Rattle.std.proofs.Common.{◌≡◌, ◌++◌, length}
use Rattle.exh_frames.specs.InPlace.{AreKeyed}
use Rattle.exh_frames.proofs.pseudokeys.of_records.Given as goal

-- the pseudokeys of the records so far
abbrev pub invariant-loop-item : goal.invariant-loop-item
invariant-loop-item l = record {
  all : l.records ≡ l.yielded ++ l.item-iterator;
  index : l.index ≡ length l.yielded;
  len : length l.pseudokeys ≡ 16;
  keyed : AreKeyed l.yielded l.pseudokeys;
}
