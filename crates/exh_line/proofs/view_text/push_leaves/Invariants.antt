use Rattle.std.proofs.Common.{◌≡◌, ◌++◌, flat_map, take}
use Rattle.exh_line.specs.Shown.{leaf_line}
use Rattle.exh_text.specs.Printing.{Keeps}
use Rattle.exh_line.proofs.view_text.push_leaves.Given as goal

abbrev pub invariant-loop-leaf : goal.invariant-loop-leaf
invariant-loop-leaf l = record {
  told : l.out.items ≡ l.initial.out.items ++ flat_map (leaf_line l.ward_bits) (take l.leaf-index l.leaf-items);
  kept : Keeps l.initial.out.items l.out.items;
}
