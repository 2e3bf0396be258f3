use Rattle.std.proofs.Common.{◌<◌, length, Bool, true, false, not, ◌&&◌, List, [], ◌∷◌, ◌++◌, filter, rules, ap, ◌∙◌}
use Rattle.std.proofs.lemmas.Fn.{filter_same}
use Rattle.exh_prefix.specs.declared.prefix.TheConstants.{LIMIT}
use Rattle.exh_prefix.specs.PrefixListLemmas.{value_of_some}
use Rattle.exh_model.proofs.LeafLemmas.{prefix_eq, split_done, merge_done}
use Rattle.exh_model.proofs.leaf_set.LeafSet.change.Goals as goal

pub returns-in-Split-clause-ok : goal.returns-in-Split-clause-ok
returns-in-Split-clause-ok c =
    let parent = c.args.change.now.prefix in
    let left = value_of_some _ (length parent < LIMIT) (parent ++ false ∷ []) _ c.child.ensures c.unwrap-left.ensures in
    let right = value_of_some _ (length parent < LIMIT) (parent ++ true ∷ []) _ c.child-2.ensures c.unwrap-right.ensures in
    let test : List Bool → Bool = λ leaf. not (prefix_eq leaf parent) in
    let kept = filter_same _ test _ (λ x b f' k. (search rules, search rules)) _ _ c.retain.ensures.filtered ∙ ap (λ (items : List (List Bool)). filter test items) c.in_ok-reserve.ensures.items in
    let items = c.push_reserved-in-Split.ensures.items ∙ ap (λ (items : List (List Bool)). items ++ c.unwrap-right.result ∷ []) (c.push_reserved.ensures.items ∙ ap (λ (items : List (List Bool)). items ++ c.unwrap-left.result ∷ []) kept)
    ∙ ap (λ child. (filter test c.self.inside.leaves.items ++ child ∷ []) ++ c.unwrap-right.result ∷ []) left
    ∙ ap (λ child. (filter test c.self.inside.leaves.items ++ (parent ++ false ∷ []) ∷ []) ++ child ∷ []) right in
    split_done _ c.self.inside.leaves.items _ parent _ _ c.self.view_is c.in-Split.is items

pub returns-in-Merge-clause-ok : goal.returns-in-Merge-clause-ok
returns-in-Merge-clause-ok c =
    let parent = c.args.change.now.prefix in
    let left = value_of_some _ (length parent < LIMIT) (parent ++ false ∷ []) _ c.child.ensures c.unwrap-left.ensures in
    let right = value_of_some _ (length parent < LIMIT) (parent ++ true ∷ []) _ c.child-2.ensures c.unwrap-right.ensures in
    let test : List Bool → Bool = λ leaf. not (prefix_eq leaf c.unwrap-left.result) && not (prefix_eq leaf c.unwrap-right.result) in
    let kept = filter_same _ test _ (λ x b f' k. (search rules, search rules)) _ _ c.retain-in-Merge.ensures.filtered ∙ ap (λ (items : List (List Bool)). filter test items) c.in_ok-reserve.ensures.items in
    let items = c.push_reserved-in-Merge.ensures.items ∙ ap (λ (items : List (List Bool)). items ++ parent ∷ []) kept
    ∙ ap (λ child. filter (λ leaf. not (prefix_eq leaf child) && not (prefix_eq leaf c.unwrap-right.result)) c.self.inside.leaves.items ++ parent ∷ []) left
    ∙ ap (λ child. filter (λ leaf. not (prefix_eq leaf (parent ++ false ∷ [])) && not (prefix_eq leaf child)) c.self.inside.leaves.items ++ parent ∷ []) right in
    merge_done _ c.self.inside.leaves.items _ parent _ c.self.view_is c.in-Merge.is items
