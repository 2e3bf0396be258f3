-- Arrays of tables that differ at most at one prefix.
use Rattle.std.proofs.Common.{◌≡◌, ◌≢◌, ℕ, ◌-◌, ◌<◌, ◌≤◌, inl, inr, Bool, true, false, if◌then◌else◌, nat_lt, List, length, take, drop, max, Some, None, refl, sym, ap, ◌∙◌, subst, arith}
use Rattle.std.specs.Ordering.{eq_by_cmp, is_eq}
use Rattle.std.proofs.lemmas.Bool.{false≢true}
use Rattle.std.proofs.lemmas.Cmp.{tied_itself}
use Rattle.std.proofs.lemmas.List.{length-drop, length-take-le, take-take}
use Rattle.exh_prefix.specs.Bits.{word_bits}
use Rattle.exh_prefix.specs.Prefix.{Begins, prefix_cmp}
use Rattle.exh_prefix.specs.PrefixLemmas.{begins_or_not, length-word_bits, prefix_cmp-total}
use Rattle.exh_prefix.specs.declared.prefix.TheConstants.{LIMIT}
use Rattle.exh_table.specs.declared.leaf.Leaf.{Leaf}
use Rattle.exh_table.specs.Table.{TableMap}
use Rattle.exh_table.specs.TableWalk.{right_of, walk_on, walk_of}
use Rattle.exh_table.specs.Below.{splits_above, depth_below, depth_of}
use Rattle.exh_table.specs.TableLemmas.{same_from_tie}
use Rattle.exh_table.specs.WalkLemmas.{walk_on-stop, walk_from_root}
use Rattle.exh_table.specs.PathLemmas.{front_and_rest}
use Rattle.exh_table.specs.LeafLemmas.{root}
use Rattle.exh_array.specs.Pointers.{PointerArray, pointer_to, IsArrayOf, DifferAtMostAt}
use Rattle.exh_array.specs.Within.{walk_along, walk_from, HasLeavesOf, IsPlaceIn, PointTheSame, IsPointedBelow}
use Rattle.exh_array.proofs.Walks.{walk_on-append, walk_on-cases, depth_below-walk, same_walk_to, same_walk_past}

-- the bits that follow a prefix in a pseudokey, up to LIMIT
abbrev rest_of : List Bool → ℕ → List Bool
rest_of prefix pseudokey = drop (length prefix) (take LIMIT (word_bits pseudokey))

length-rest_of : (prefix : List Bool) (pseudokey : ℕ) → length (rest_of prefix pseudokey) ≡ LIMIT - length prefix
length-rest_of prefix pseudokey = omega (arith, length-drop (length prefix) (take LIMIT (word_bits pseudokey)), length-take-le LIMIT (word_bits pseudokey) (omega (arith, length-word_bits pseudokey)))

module _ (prefix : List Bool) (ward_bits : ℕ) (small : ward_bits ≤ LIMIT) (short : length prefix ≤ LIMIT) where
  -- the walk for a pseudokey that the prefix begins goes on from where the walk along the prefix ends
  walk_begun : (table : TableMap) (pseudokey : ℕ) → Begins prefix pseudokey → walk_of table ward_bits pseudokey ≡ walk_on (splits_above table ward_bits) (rest_of prefix pseudokey) (walk_along table ward_bits prefix)
  walk_begun table pseudokey begins =
      sym (walk_from_root table ward_bits pseudokey small)
      ∙ ap (λ bits. walk_on (splits_above table ward_bits) bits root) (sym (front_and_rest prefix pseudokey short begins))
      ∙ walk_on-append (splits_above table ward_bits) prefix (rest_of prefix pseudokey) root

  -- which is there, where it stops before
  stops_before : (table : TableMap) → length (walk_along table ward_bits prefix).prefix < length prefix → splits_above table ward_bits (walk_along table ward_bits prefix).prefix ≡ None
  stops_before table less =
      elim (walk_on-cases (splits_above table ward_bits) prefix root) [
        | inl all ↦ let long : length (walk_along table ward_bits prefix).prefix ≡ length prefix = ap length all in absurd (omega arith)
        | inr stops ↦ stops.0
      ]

  walk_stopped : (table : TableMap) (pseudokey : ℕ) → length (walk_along table ward_bits prefix).prefix < length prefix → Begins prefix pseudokey → walk_of table ward_bits pseudokey ≡ walk_along table ward_bits prefix
  walk_stopped table pseudokey less begins =
      walk_begun table pseudokey begins ∙ walk_on-stop (splits_above table ward_bits) (rest_of prefix pseudokey) (walk_along table ward_bits prefix) (stops_before table less)

  -- below a place that the walk along the prefix comes to
  module _ (table : TableMap) (at : Leaf) (is : at.prefix ≡ prefix) (comes : walk_along table ward_bits prefix ≡ at) where
    walk_below : (pseudokey : ℕ) → Begins prefix pseudokey → walk_of table ward_bits pseudokey ≡ walk_from table ward_bits at pseudokey
    walk_below pseudokey begins =
        walk_begun table pseudokey begins
        ∙ ap (walk_on (splits_above table ward_bits) (rest_of prefix pseudokey)) comes
        ∙ ap (λ p. walk_on (splits_above table ward_bits) (rest_of p pseudokey) at) (sym is)

    -- leaves are no longer than the depth there
    below_deep : (pseudokey : ℕ) → length (walk_from table ward_bits at pseudokey).prefix ≤ depth_below (splits_above table ward_bits) (LIMIT - length at.prefix) at
    below_deep pseudokey = depth_below-walk (splits_above table ward_bits) (rest_of at.prefix pseudokey) 0 (LIMIT - length at.prefix) at (omega (arith, length-rest_of at.prefix pseudokey))

    -- which is at most that of the directory
    pub below_depth_of : depth_below (splits_above table ward_bits) (LIMIT - length at.prefix) at ≤ depth_of table ward_bits
    unfolding depth_of
    below_depth_of =
        subst (λ (leaf : Leaf). depth_below (splits_above table ward_bits) (LIMIT - length at.prefix) leaf ≤ depth_below (splits_above table ward_bits) LIMIT root) comes
        (depth_below-walk (splits_above table ward_bits) prefix (LIMIT - length at.prefix) LIMIT root (omega (arith, ap length is)))

module _ (before table : TableMap) (prefix : List Bool) (ward_bits : ℕ) (small : ward_bits ≤ LIMIT) (short : length prefix ≤ LIMIT) (differ : DifferAtMostAt prefix before table) where
  same_splits : (at : List Bool) → at ≢ prefix → splits_above before ward_bits at ≡ splits_above table ward_bits at
  same_splits at other = ap (λ entry. if nat_lt (length at) ward_bits then Some 0 else right_of entry) (differ at other)

  -- up to the prefix all walks are the same
  pub same_along : walk_along before ward_bits prefix ≡ walk_along table ward_bits prefix
  same_along = same_walk_to (splits_above before ward_bits) (splits_above table ward_bits) prefix same_splits prefix root (omega arith)

  -- and past it
  same_outside : (pseudokey : ℕ) → (Begins prefix pseudokey → ⊥) → walk_of before ward_bits pseudokey ≡ walk_of table ward_bits pseudokey
  same_outside pseudokey other =
      sym (walk_from_root before ward_bits pseudokey small)
      ∙ same_walk_past (splits_above before ward_bits) (splits_above table ward_bits) prefix same_splits (take LIMIT (word_bits pseudokey)) root (λ front. other (sym (take-take (length prefix) LIMIT (word_bits pseudokey) short) ∙ front))
      ∙ walk_from_root table ward_bits pseudokey small

  -- where they stop before the prefix, all are the same
  same_walks : length (walk_along before ward_bits prefix).prefix < length prefix → (pseudokey : ℕ) → walk_of before ward_bits pseudokey ≡ walk_of table ward_bits pseudokey
  same_walks less pseudokey =
      elim (begins_or_not prefix pseudokey) [
        | inl begins ↦
            walk_stopped prefix ward_bits small short before pseudokey less begins ∙ same_along
            ∙ sym (walk_stopped prefix ward_bits small short table pseudokey (omega (arith, ap (λ (leaf : Leaf). length leaf.prefix) same_along)) begins)
        | inr other ↦ same_outside pseudokey other
      ]

  -- and where they go on from the prefix over the same split, or none
  same_on : splits_above before ward_bits prefix ≡ splits_above table ward_bits prefix → (at : List Bool) → splits_above before ward_bits at ≡ splits_above table ward_bits at
  same_on here at =
      elim (eq_by_cmp prefix_cmp at prefix) as (λ tie. eq_by_cmp prefix_cmp at prefix ≡ tie → splits_above before ward_bits at ≡ splits_above table ward_bits at) [
        | true ↦ λ tie. subst (λ p. splits_above before ward_bits p ≡ splits_above table ward_bits p) (sym (same_from_tie at prefix tie)) here
        | false ↦ λ apart. same_splits at (λ is. false≢true (sym apart ∙ ap (λ p. eq_by_cmp prefix_cmp p prefix) is ∙ ap is_eq (tied_itself prefix_cmp-total prefix)))
      ] refl

  same_walks_on : splits_above before ward_bits prefix ≡ splits_above table ward_bits prefix → (pseudokey : ℕ) → walk_of before ward_bits pseudokey ≡ walk_of table ward_bits pseudokey
  same_walks_on here pseudokey =
      let bits = take LIMIT (word_bits pseudokey) in
      sym (walk_from_root before ward_bits pseudokey small)
      ∙ same_walk_to (splits_above before ward_bits) (splits_above table ward_bits) bits (λ at apart. same_on here at) bits root (omega arith)
      ∙ walk_from_root table ward_bits pseudokey small

-- the array of one table is that of another with the same walks
array_again : (before table : TableMap) (array : PointerArray) → ((pseudokey : ℕ) → walk_of before array.ward_bits pseudokey ≡ walk_of table array.ward_bits pseudokey) → IsArrayOf before array → IsArrayOf table array
array_again before table array same is = record {
  depth = record {
    reached =
        let leaf = is.depth.reached in
        (leaf.0, (leaf.1.0, (leaf.1.1.0, leaf.1.1.1, sym (same leaf.1.1.0) ∙ leaf.1.1.2)), leaf.2);
    greatest = λ prefix (page, (pseudokey, fits, walks)). is.depth.greatest prefix (page, (pseudokey, fits, same pseudokey ∙ walks));
  };
  full = is.full;
  each = λ pseudokey fits. is.each pseudokey fits ∙ ap (λ leaf. Some (pointer_to leaf)) (same pseudokey);
}

pub array_unchanged : (before table : TableMap) (prefix : List Bool) (array : PointerArray) → array.ward_bits ≤ LIMIT → length prefix ≤ LIMIT → DifferAtMostAt prefix before table → IsPlaceIn before array.ward_bits prefix None
    → IsArrayOf before array → IsArrayOf table array
array_unchanged before table prefix array small short differ less is = array_again before table array (same_walks before table prefix array.ward_bits small short differ less) is

pub array_told : (before table : TableMap) (prefix : List Bool) (array : PointerArray) → array.ward_bits ≤ LIMIT → length prefix ≤ LIMIT → DifferAtMostAt prefix before table
    → splits_above before array.ward_bits prefix ≡ splits_above table array.ward_bits prefix → IsArrayOf before array → IsArrayOf table array
array_told before table prefix array small short differ here is = array_again before table array (same_walks_on before table prefix array.ward_bits small short differ here) is

pub has_leaves : (table : TableMap) (array : PointerArray) → IsArrayOf table array → HasLeavesOf table array
has_leaves table array is = record {
  deep = λ pseudokey fits. let leaf = walk_of table array.ward_bits pseudokey in is.depth.greatest leaf.prefix (leaf.page, (pseudokey, fits, refl));
  each = is.each;
}

-- the array made deep enough, and pointed to the leaves below the place
pub leaves_pointed : (before table : TableMap) (prefix : List Bool) (at : Leaf) (old deep new : PointerArray) → old.ward_bits ≤ LIMIT → length prefix ≤ LIMIT → DifferAtMostAt prefix before table
    → IsPlaceIn before old.ward_bits prefix (Some at) → IsArrayOf before old
    → deep.ward_bits ≡ old.ward_bits → deep.depth ≡ max old.depth (depth_below (splits_above table old.ward_bits) (LIMIT - length at.prefix) at) → PointTheSame deep old → IsPointedBelow table at deep new
    → HasLeavesOf table new
leaves_pointed before table prefix at old deep new small short differ place is wards depth same pointed =
    let comes : walk_along table old.ward_bits prefix ≡ at = sym (same_along before table prefix old.ward_bits small short differ) ∙ place.1 in
    let had = has_leaves before old is in
    let same_wards : new.ward_bits ≡ old.ward_bits = pointed.ward_bits ∙ wards in
    let as_deep : new.depth ≡ max old.depth (depth_below (splits_above table old.ward_bits) (LIMIT - length at.prefix) at) = pointed.depth ∙ depth in
    let within : (pseudokey : ℕ) → Begins prefix pseudokey → Begins at.prefix pseudokey = λ pseudokey. subst (λ p. Begins p pseudokey) (sym place.0) in
    let outside : (pseudokey : ℕ) → (Begins prefix pseudokey → ⊥) → Begins at.prefix pseudokey → ⊥ = λ pseudokey other begins. other (subst (λ p. Begins p pseudokey) place.0 begins) in
    record {
      deep = λ pseudokey fits. rw same_wards (elim (begins_or_not prefix pseudokey) [
        | inl begins ↦ omega (arith, below_deep prefix old.ward_bits small short table at place.0 comes pseudokey, ap (λ (leaf : Leaf). length leaf.prefix) (walk_below prefix old.ward_bits small short table at place.0 comes pseudokey begins))
        | inr other ↦ omega (arith, had.deep pseudokey fits, ap (λ (leaf : Leaf). length leaf.prefix) (same_outside before table prefix old.ward_bits small short differ pseudokey other))
      ]);
      each = λ pseudokey fits. elim (begins_or_not prefix pseudokey) [
        | inl begins ↦
            pointed.inside pseudokey fits (within pseudokey begins)
            ∙ ap (λ n. Some (pointer_to (walk_from table n at pseudokey))) wards
            ∙ ap (λ leaf. Some (pointer_to leaf)) (sym (walk_below prefix old.ward_bits small short table at place.0 comes pseudokey begins))
            ∙ ap (λ n. Some (pointer_to (walk_of table n pseudokey))) (sym same_wards)
        | inr other ↦
            pointed.outside pseudokey fits (outside pseudokey other) ∙ same pseudokey fits ∙ is.each pseudokey fits
            ∙ ap (λ leaf. Some (pointer_to leaf)) (same_outside before table prefix old.ward_bits small short differ pseudokey other)
            ∙ ap (λ n. Some (pointer_to (walk_of table n pseudokey))) (sym same_wards)
      ];
    }
