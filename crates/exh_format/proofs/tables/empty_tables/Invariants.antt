use Rattle.std.proofs.Common.{◌≡◌, ℕ, length, get_or}
use Rattle.std.specs.FinMap.{empty}
use Rattle.exh_format.proofs.tables.empty_tables.Given as goal

abbrev pub invariant-loop-number : goal.invariant-loop-number
invariant-loop-number l = record {
  count : length l.tables.items ≡ l.number;
  none : (number : ℕ) → get_or l.tables.items number empty ≡ empty;
}
