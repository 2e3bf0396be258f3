use Rattle.std.proofs.Common.{◌≡◌, ℕ, ◌<◌, ◌≤◌, ◌^◌, ◌*◌, length, slice_get, take, Some}
use Rattle.exh_prefix.specs.declared.prefix.TheConstants.{LIMIT}
use Rattle.exh_keyer.specs.Pseudokey.{any_pseudokey}
use Rattle.exh_keyer.specs.declared.any_keyer.AnyKeyer.{AnyKeyer}
use Rattle.exh_ward.specs.WardState.{IsSoundWard, WardState}
use Rattle.exh_file.specs.Saved.{entries_of_all}
use Rattle.exh_file.proofs.header.entry_count_of.Given as goal

-- the entries of the wards so far
abbrev pub invariant-loop-number : goal.invariant-loop-number
invariant-loop-number g l = record {
  count : l.count ≡ length (entries_of_all (take l.number l.wards));
  few : l.count ≤ l.number * 2 ^ LIMIT;
  sound : (number : ℕ) (ward : WardState AnyKeyer) → number < l.number → slice_get l.wards number ≡ Some ward → IsSoundWard any_pseudokey ward;
}
