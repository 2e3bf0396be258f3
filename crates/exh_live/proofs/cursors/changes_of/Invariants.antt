use Rattle.std.proofs.Common.{◌≡◌, ◌+◌}
use Rattle.std.specs.List.{sum_by}
use Rattle.exh_live.specs.Rounds.{changes_told, told_of}
use Rattle.exh_live.proofs.cursors.changes_of.Given as goal

-- what is left to be added makes the sum
abbrev pub invariant-loop-prefix : goal.invariant-loop-prefix
invariant-loop-prefix l = l.told + sum_by (told_of l.ward_bits l.number) l.prefix-iterator ≡ changes_told l.ward_bits l.table l.number
