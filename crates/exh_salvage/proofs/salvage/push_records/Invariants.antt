use Rattle.std.proofs.Common.{◌≡◌, ◌++◌, map}
use Rattle.exh_salvage.specs.SavedBlock.{saved_pair}
use Rattle.exh_salvage.proofs.salvage.push_records.Given as goal

-- the pairs of the records so far
abbrev pub invariant-loop-record : goal.invariant-loop-record
invariant-loop-record l = record {
  all : l.records ≡ l.yielded ++ l.record-iterator;
  pairs : l.pairs.items ≡ l.fn.pairs.items ++ map (saved_pair l.place) l.yielded;
}
