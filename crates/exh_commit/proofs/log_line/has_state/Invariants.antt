use Rattle.std.proofs.Common.{◌≡◌, ◌≢◌, ◌<◌, ℕ, slice_index}
use Rattle.exh_commit.proofs.log_line.has_state.Given as goal

abbrev pub invariant-loop-at : goal.invariant-loop-at
invariant-loop-at l = (i : ℕ) → i < l.at → slice_index l.stamps i ≡ l.stamp → slice_index l.befores i ≢ l.before
