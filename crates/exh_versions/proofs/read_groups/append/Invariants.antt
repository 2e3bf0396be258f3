use Rattle.std.proofs.Common.{◌≡◌, ◌++◌, take}
use Rattle.exh_versions.proofs.read_groups.append.Given as goal

abbrev pub invariant-loop-cell : goal.invariant-loop-cell
invariant-loop-cell l = l.cells.items ≡ l.initial.cells.items ++ take l.cell-index l.more
