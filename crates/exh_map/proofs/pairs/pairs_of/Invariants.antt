use Rattle.std.proofs.Common.{ℕ, ◌<◌, slice_get, Some, ◌≡◌, ◌≤◌, length, take}
use Rattle.exh_keyer.specs.Pseudokey.{any_pseudokey}
use Rattle.exh_keyer.specs.declared.any_keyer.AnyKeyer.{AnyKeyer}
use Rattle.exh_ward.specs.WardState.{IsSoundWard, WardState}
use Rattle.exh_map.specs.Pairs.{pairs_in}
use Rattle.exh_map.proofs.pairs.pairs_of.Given as goal

-- the pairs of the wards so far
abbrev pub invariant-wards : goal.invariant-wards
invariant-wards g l = record {
  within : l.number ≤ length l.fn.wards.items;
  pairs : l.packed ≡ pairs_in (take l.number l.fn.wards.items);
  same : l.wards.items ≡ l.fn.wards.items;
  sound : (number : ℕ) (ward : WardState AnyKeyer) → number < l.number → slice_get l.fn.wards.items number ≡ Some ward → IsSoundWard any_pseudokey ward;
}
