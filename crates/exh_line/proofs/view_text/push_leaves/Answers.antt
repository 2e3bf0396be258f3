use Rattle.std.proofs.Common.{◌≡◌, ℕ, ◌+◌, ◌<◌, List, [], ◌∷◌, ◌++◌, length, get_or, take, flat_map, append_assoc, sym, ap, ◌∙◌}
use Rattle.std.proofs.lemmas.Grind.{flat_map-append}
use Rattle.std.proofs.lemmas.List.{append-nil, take_all, take_more}
use Rattle.std.proofs.lemmas.Result.{IfOk-from_err}
use Rattle.exh_table.specs.declared.leaf.Leaf.{Leaf}
use Rattle.exh_text.specs.TextLemmas.{keeps_all, keeps_more}
use Rattle.exh_line.specs.Shown.{leaf_line}
use Rattle.exh_line.proofs.view_text.push_leaves.Goals as goal

-- the line of a leaf behind those before it
one_more : (line : Leaf → List ℕ) (leaves : List Leaf) (i : ℕ) (leaf : Leaf) (old before new : List ℕ)
    → i < length leaves → leaf ≡ get_or leaves i leaf → before ≡ old ++ flat_map line (take i leaves) → new ≡ before ++ line leaf → new ≡ old ++ flat_map line (take (i + 1) leaves)
one_more line leaves i leaf old before new within is told added =
    let last : flat_map line (get_or leaves i leaf ∷ []) ≡ line leaf = append-nil (line (get_or leaves i leaf)) ∙ ap line (sym is) in
    let lines = ap (flat_map line) (take_more leaves i leaf within) ∙ flat_map-append line (take i leaves) (get_or leaves i leaf ∷ []) ∙ ap (λ its. flat_map line (take i leaves) ++ its) last in
    added ∙ ap (λ front. front ++ line leaf) told ∙ append_assoc old (flat_map line (take i leaves)) (line leaf) ∙ ap (λ its. old ++ its) (sym lines)

pub loop-leaf-init : goal.loop-leaf-init
loop-leaf-init c = record {
  told = sym (append-nil c.args.out.now.items);
  kept = keeps_all c.args.out.now.items;
}

pub loop-leaf-preserved : goal.loop-leaf-preserved
loop-leaf-preserved c =
    let was = c.loop-leaf.invariant in
    record {
      told =
          one_more (leaf_line c.args.ward_bits) c.deref-leaf-items.result.now c.loop-leaf.leaf-index c.leaf-item.result c.args.out.now.items c.loop-leaf.out.items c.push_leaf.new.out.items
          c.loop-leaf-test.true c.leaf-item.is was.told c.in_ok-push_leaf.ensures.ok;
      kept = keeps_more _ _ _ was.kept c.push_leaf.ensures.kept;
    }

pub returns-clause-ok : goal.returns-clause-ok
returns-clause-ok c =
    let leaves = c.deref-leaf-items.result.now in
    c.loop-leaf.invariant.told ∙ ap (λ its. c.args.out.now.items ++ flat_map (leaf_line c.args.ward_bits) its) (take_all c.loop-leaf.leaf-index leaves c.loop-leaf-test.false ∙ c.deref-leaf-items.ensures.value ∙ c.in_ok-leaves.ensures.listed)

pub returns-clause-kept : goal.returns-clause-kept
returns-clause-kept c = c.loop-leaf.invariant.kept

pub returns-in_err-leaves-clause-ok : goal.returns-in_err-leaves-clause-ok
returns-in_err-leaves-clause-ok c = IfOk-from_err c.from_residual.result _ c.from_residual.ensures.0

pub returns-in_err-leaves-clause-kept : goal.returns-in_err-leaves-clause-kept
returns-in_err-leaves-clause-kept c = keeps_all c.args.out.now.items

pub returns-in_err-push_leaf-clause-ok : goal.returns-in_err-push_leaf-clause-ok
returns-in_err-push_leaf-clause-ok c = IfOk-from_err c.from_residual-in_err-push_leaf.result _ c.from_residual-in_err-push_leaf.ensures.0

pub returns-in_err-push_leaf-clause-kept : goal.returns-in_err-push_leaf-clause-kept
returns-in_err-push_leaf-clause-kept c = keeps_more _ _ _ c.loop-leaf.invariant.kept c.push_leaf.ensures.kept

pub push_leaf-requires : goal.push_leaf-requires
push_leaf-requires c = c.requires
