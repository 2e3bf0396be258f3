use Rattle.std.proofs.Common.{◌≡◌, ◌++◌}
use Rattle.std.specs.FinMap as map
use Rattle.exh_model.proofs.pair_map.PairMap.from_pairs.Given as goal

-- the map of the pairs so far
abbrev pub invariant-loop-key : goal.invariant-loop-key
invariant-loop-key l = record {
  all : l.fn.pairs ≡ l.yielded ++ l.key-iterator;
  map : l.map ≡ map.from_entries l.yielded;
}
