use Rattle.std.proofs.Common.{◌≡◌, ◌++◌, flat_map}
use Rattle.std.specs.FinMap.{entries}
use Rattle.exh_line.specs.Shown.{entry_line}
use Rattle.exh_text.specs.Printing.{Keeps}
use Rattle.exh_line.proofs.view_text.push_entries.Given as goal

abbrev pub invariant-loop-prefix : goal.invariant-loop-prefix
invariant-loop-prefix l = record {
  told : l.out.items ++ flat_map entry_line l.prefix-iterator ≡ l.fn.out.items ++ flat_map entry_line (entries l.fn.table);
  kept : Keeps l.fn.out.items l.out.items;
}
