use Rattle.std.proofs.Common.{◌≡◌, length}
use Rattle.exh_versions.proofs.legal_reading.empty_tables.Given as goal

abbrev pub invariant-loop-number : goal.invariant-loop-number
invariant-loop-number l = length l.tables.items ≡ l.number
