use Rattle.std.proofs.Common.{◌≡◌, ◌+◌, ◌<◌, ◌≤◌, ℕ, []}
use Rattle.exh_calls.specs.Beside.{left_at}
use Rattle.exh_calls.proofs.settlement.are_over.Given as goal

-- nothing is left in the journals so far
abbrev pub invariant-loop-number : goal.invariant-loop-number
invariant-loop-number g l = record {
  from : l.first ≤ l.number;
  over : (slot : ℕ) → l.first + slot < l.number → left_at (g.J.Journals.journals_of l.journals) l.client l.first l.places slot ≡ [];
}
