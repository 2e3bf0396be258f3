use Rattle.std.proofs.Common.{◌≡◌, ◌++◌}
use Rattle.exh_compact.proofs.FileLemmas.{IsFilling}
use Rattle.exh_compact.proofs.filling.fill.Given as goal

-- the pairs so far are put
abbrev pub invariant-puts : goal.invariant-puts
invariant-puts g l = record {
  all : l.pairs ≡ l.yielded ++ l.key-iterator;
  filling : IsFilling l.settings l.wards.items l.full.items l.yielded;
}
