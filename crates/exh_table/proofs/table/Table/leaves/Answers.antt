use Rattle.std.proofs.Common.{List, ◌++◌, ◌-◌, length, ap, ◌∙◌, sym, subst}
use Rattle.exh_prefix.specs.declared.prefix.TheConstants.{LIMIT}
use Rattle.exh_table.specs.declared.leaf.Leaf.{Leaf}
use Rattle.exh_table.specs.Below.{splits_above, leaves_below, leaves_listed}
use Rattle.exh_table.specs.Leaves.{AreLeaves}
use Rattle.exh_table.specs.LeafLemmas.{leaves_are}
use Rattle.exh_table.proofs.table.Table.leaves.Goals as goal

pub returns-clause-listed : goal.returns-clause-listed
unfolding leaves_listed
returns-clause-listed c =
    let splits = splits_above c.args.self.now c.args.ward_bits in
    c.in_ok-add_leaves.ensures ∙ ap (λ (leaves : List Leaf). leaves ++ leaves_below splits (LIMIT - length c.root.result.prefix) c.root.result) c.new-leaves.ensures.items
    ∙ ap (λ (at : Leaf). leaves_below splits (LIMIT - length at.prefix) at) c.root.ensures

pub returns-clause-leaves : goal.returns-clause-leaves
unfolding leaves_listed
returns-clause-leaves c =
    subst (AreLeaves c.args.self.now c.args.ward_bits) (sym (returns-clause-listed c)) (leaves_are c.args.self.now c.args.ward_bits c.requires)
