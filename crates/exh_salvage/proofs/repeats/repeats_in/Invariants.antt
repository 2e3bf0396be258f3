use Rattle.std.proofs.Common.{◌≡◌, take, nat_cmp}
use Rattle.std.specs.BTreeMap.{get}
use Rattle.std.specs.Cmp.Lexicographic.{slice_cmp}
use Rattle.exh_salvage.specs.Repeats.{keys_of, last_of, repeats_to}
use Rattle.exh_salvage.proofs.repeats.repeats_in.Given as goal

-- each key met so far is at its last place, and what is told of the places so far is there
abbrev pub invariant-loop-index : goal.invariant-loop-index
invariant-loop-index l = record {
  last : (key : _) → get (λ x y. slice_cmp nat_cmp x.items y.items) l.indexes key ≡ last_of (take l.index (keys_of l.pairs)) key.items;
  told : l.repeats.items ≡ repeats_to (keys_of l.pairs) l.index;
}
