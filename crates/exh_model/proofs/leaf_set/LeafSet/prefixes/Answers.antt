use Rattle.std.proofs.Common.{rules, ◌≡◌, Bool, List, subst}
use Rattle.std.specs.List.Sorted.{IsPermutation, IsSorted}
use Rattle.std.specs.Cmp.Rules.{comparing}
use Rattle.exh_prefix.specs.Prefix.{prefix_cmp}
use Rattle.exh_model.proofs.LeafLemmas.{leaves_listed}
use Rattle.exh_model.proofs.leaf_set.LeafSet.prefixes.Goals as goal

pub returns : goal.returns
returns c =
    let items = c.self.inside.leaves.items in
    let copied : c.in_ok-prefixes.prefixes.items ≡ items = search rules in
    let P : List (List Bool) → Type 0 = λ items. IsPermutation items c.sort.new.self.items in
    let sorted : IsSorted prefix_cmp c.sort.new.self.items = search rules in
    leaves_listed items c.sort.new.self.items c.dedup.new.self.items _ _ (λ x y. search (comparing, rules)) c.self.view_is (subst P copied c.in_ok-sort.ensures.permutation) sorted c.dedup.ensures.filtered
