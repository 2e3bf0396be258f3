use Rattle.std.proofs.Common.{◌≡◌, ◌+◌, length}
use Rattle.std.specs.FinMap.{entries}
use Rattle.exh_file.proofs.header.table_len.Given as goal

-- those counted and those left are all
abbrev pub invariant-loop-told : goal.invariant-loop-told
invariant-loop-told l = l.count + length l._told-iterator ≡ length (entries l.table)
