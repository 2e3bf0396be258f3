use Rattle.std.proofs.Common.{◌≢◌, ◌≤◌, ◌+◌, ◌<◌, ℕ, slice_index}
use Rattle.exh_commit.proofs.log_look.last_of_first_page.Given as goal

abbrev pub invariant-loop-past : goal.invariant-loop-past
invariant-loop-past l = (i : ℕ) → l.count ≤ i + l.past → i < l.count → slice_index l.numbers i ≢ 1
