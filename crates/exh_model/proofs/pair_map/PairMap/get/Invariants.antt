use Rattle.std.proofs.Common.{◌≡◌, take, nat_cmp, None}
use Rattle.std.specs.FinMap as map
use Rattle.std.specs.Cmp.Lexicographic.{slice_cmp}
use Rattle.exh_model.proofs.pair_map.PairMap.get.Given as goal

-- no pair so far has the key
abbrev pub invariant-loop-other : goal.invariant-loop-other
invariant-loop-other l = map.find (slice_cmp nat_cmp) l.key (take l.other-index l.other-items) ≡ None
