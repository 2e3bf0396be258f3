use Rattle.std.proofs.Common.{◌≡◌, ◌++◌, map}
use Rattle.exh_page.specs.KeyMap.{pair_of}
use Rattle.exh_map.proofs.ward_pairs.push_records.Given as goal

-- the pairs of the records so far
abbrev pub invariant-loop-item : goal.invariant-loop-item
invariant-loop-item l = record {
  all : l.records ≡ l.yielded ++ l.item-iterator;
  pairs : l.pairs ≡ l.fn.pairs ++ map pair_of l.yielded;
}
