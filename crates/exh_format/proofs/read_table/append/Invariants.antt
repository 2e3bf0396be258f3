use Rattle.std.proofs.Common.{◌≡◌, ◌++◌, take}
use Rattle.exh_format.proofs.read_table.append.Given as goal

abbrev pub invariant-loop-item : goal.invariant-loop-item
invariant-loop-item l = l.entries.items ≡ l.initial.entries.items ++ take l.item-index l.more
