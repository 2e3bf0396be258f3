use Rattle.std.proofs.Common.{◌-◌, length, ap, ◌∙◌, sym, subst}
use Rattle.exh_prefix.specs.declared.prefix.TheConstants.{LIMIT}
use Rattle.exh_table.specs.declared.leaf.Leaf.{Leaf}
use Rattle.exh_table.specs.Below.{splits_above, depth_below, depth_of}
use Rattle.exh_table.specs.Directory.{IsDepth}
use Rattle.exh_table.specs.Leaves.{leaves_of}
use Rattle.exh_table.specs.LeafLemmas.{depth_is}
use Rattle.exh_table.proofs.table.Table.depth.Goals as goal

pub returns-clause-computed : goal.returns-clause-computed
unfolding depth_of
returns-clause-computed c =
    c.depth_below.ensures ∙ ap (λ (at : Leaf). depth_below (splits_above c.args.self.now c.args.ward_bits) (LIMIT - length at.prefix) at) c.root.ensures

pub returns-clause-depth : goal.returns-clause-depth
unfolding depth_of
returns-clause-depth c =
    subst (IsDepth (leaves_of c.args.self.now c.args.ward_bits)) (sym (returns-clause-computed c)) (depth_is c.args.self.now c.args.ward_bits c.requires)
