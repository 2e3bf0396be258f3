-- The leaves below a place: those at the ends of walks, in order.
use Rattle.std.proofs.Common.{◌≡◌, ℕ, zero, suc, ◌+◌, ◌-◌, ◌*◌, ◌<◌, ◌≤◌, ◌^◌, Bool, true, false, List, [], ◌∷◌, ◌++◌, length, take, map, max, replicate, Option, Some, None, refl, sym, ap, ◌∙◌, subst, arith, ◌⊎◌, inl, inr, Contains, lit≤}
use Rattle.std.specs.Option.{option_map_or}
use Rattle.std.specs.List.{AllByRecursion}
use Rattle.std.specs.List.Sorted.{IsStrictlySortedBy}
use Rattle.std.specs.declared.cmp.Ordering.TheVariants.{Less}
use Rattle.std.proofs.lemmas.Bool.Decides.{leb_tells}
use Rattle.std.proofs.lemmas.List.{length_push, length-replicate, length-take-le}
use Rattle.std.proofs.lemmas.List.Elements.{Contains-append_left, Contains-append_right, Contains-append_cases}
use Rattle.std.proofs.lemmas.Nat.{pow_pos}
use Rattle.std.proofs.Math.Nat.{pow-suc}
use Rattle.std.specs.Ordering.{ordering_then, nat_cmp}
use Rattle.std.specs.Cmp.{nat_cmp_is}
use Rattle.exh_prefix.specs.Bits.{word_bits}
use Rattle.exh_prefix.specs.Prefix.{low_of, prefix_cmp}
use Rattle.exh_prefix.specs.PrefixLemmas.{length-word_bits, low_of-child, low_of-word, take-word-low_of}
use Rattle.exh_prefix.specs.declared.prefix.TheConstants.{LIMIT}
use Rattle.exh_table.specs.declared.leaf.Leaf.{Leaf}
use Rattle.exh_table.specs.Table.{TableMap}
use Rattle.exh_table.specs.TableWalk.{step, walk_on}
use Rattle.exh_table.specs.Leaves.{IsLeaf, leaves_of, AreLeaves}
use Rattle.exh_table.specs.Directory.{IsDepth}
use Rattle.exh_table.specs.Below.{splits_above, leaves_below, depth_below}
use Rattle.exh_table.specs.WalkLemmas.{walk_on-stop, walk_from_root}

-- the root of all walks
abbrev pub root : Leaf
root = record { prefix = []; page = 0 }

-- where a walk of n bits ends
pub record IsEnd (splits : List Bool → Option ℕ) (n : ℕ) (at leaf : Leaf) : Type 0 where
  pub bits : List Bool
  pub many : length bits ≡ n
  pub ends : walk_on splits bits at ≡ leaf

-- ---- one element

Contains-one : {X : Type 0} (x y : X) → x ≡ y → Contains (x ∷ []) y
Contains-one x y same = (0, omega arith, same)

one-Contains : {X : Type 0} (x y : X) → Contains (x ∷ []) y → x ≡ y
one-Contains x y (zero, within, is) = is
one-Contains x y (suc n, within, is) = absurd (omega arith)

-- ---- ends by their first bit

end_here : (splits : List Bool → Option ℕ) (n : ℕ) (at leaf : Leaf) → splits at.prefix ≡ None → at ≡ leaf → IsEnd splits n at leaf
end_here splits n at leaf none is = record { bits = replicate n false; many = length-replicate n false; ends = walk_on-stop splits (replicate n false) at none ∙ is }

end_after : (splits : List Bool → Option ℕ) (n : ℕ) (at leaf : Leaf) (bit : Bool) (right : ℕ) → splits at.prefix ≡ Some right → IsEnd splits n (step at bit right) leaf → IsEnd splits (suc n) at leaf
end_after splits n at leaf bit right split end = record {
  bits = bit ∷ end.bits;
  many = ap suc end.many;
  ends = ap (λ split. option_map_or (λ right. walk_on splits end.bits (step at bit right)) split at) split ∙ end.ends;
}

-- ---- the list of leaves holds the ends, and nothing else

pub contained_is_end : (splits : List Bool → Option ℕ) (n : ℕ) (at leaf : Leaf) → Contains (leaves_below splits n at) leaf → IsEnd splits n at leaf
contained_is_end splits zero at leaf contains = record { bits = []; many = refl; ends = one-Contains at leaf contains }
contained_is_end splits (suc n) at leaf contains =
    elim (splits at.prefix) as (λ split. splits at.prefix ≡ split
    → Contains (option_map_or (λ right. leaves_below splits n (step at false right) ++ leaves_below splits n (step at true right)) split (at ∷ [])) leaf → IsEnd splits (suc n) at leaf) [
      | None ↦ λ none contains. end_here splits (suc n) at leaf none (one-Contains at leaf contains)
      | Some right ↦ λ split contains.
          elim (Contains-append_cases (leaves_below splits n (step at false right)) (leaves_below splits n (step at true right)) leaf contains) [
            | inl before ↦ end_after splits n at leaf false right split (contained_is_end splits n (step at false right) leaf before)
            | inr behind ↦ end_after splits n at leaf true right split (contained_is_end splits n (step at true right) leaf behind)
          ]
    ] refl contains

-- where a walk of the given bits ends
ends_contained : (splits : List Bool → Option ℕ) (bits : List Bool) (at leaf : Leaf) → walk_on splits bits at ≡ leaf → Contains (leaves_below splits (length bits) at) leaf
ends_contained splits [] at leaf is = Contains-one at leaf is
ends_contained splits (bit ∷ bits) at leaf is =
    elim (splits at.prefix) as (λ split. option_map_or (λ right. walk_on splits bits (step at bit right)) split at ≡ leaf
    → Contains (option_map_or (λ right. leaves_below splits (length bits) (step at false right) ++ leaves_below splits (length bits) (step at true right)) split (at ∷ [])) leaf) [
      | None ↦ λ is. Contains-one at leaf is
      | Some right ↦ λ is.
          elim bit as (λ bit. walk_on splits bits (step at bit right) ≡ leaf → Contains (leaves_below splits (length bits) (step at false right) ++ leaves_below splits (length bits) (step at true right)) leaf) [
            | false ↦ λ is. Contains-append_left _ _ leaf (ends_contained splits bits (step at false right) leaf is)
            | true ↦ λ is. Contains-append_right _ _ leaf (ends_contained splits bits (step at true right) leaf is)
          ] is
    ] is

pub end_is_contained : (splits : List Bool → Option ℕ) (n : ℕ) (at leaf : Leaf) → IsEnd splits n at leaf → Contains (leaves_below splits n at) leaf
end_is_contained splits n at leaf end = subst (λ n. Contains (leaves_below splits n at) leaf) end.many (ends_contained splits end.bits at leaf end.ends)

-- ---- the leaves of a table are the ends of walks from the root

pub leaf_is_end : (table : TableMap) (ward_bits : ℕ) (leaf : Leaf) → ward_bits ≤ LIMIT → IsLeaf table ward_bits leaf → IsEnd (splits_above table ward_bits) LIMIT root leaf
leaf_is_end table ward_bits leaf short (pseudokey, small, walks) = record {
  bits = take LIMIT (word_bits pseudokey);
  many = length-take-le LIMIT (word_bits pseudokey) (omega (arith, length-word_bits pseudokey));
  ends = walk_from_root table ward_bits pseudokey short ∙ walks;
}

pub end_is_leaf : (table : TableMap) (ward_bits : ℕ) (leaf : Leaf) → ward_bits ≤ LIMIT → IsEnd (splits_above table ward_bits) LIMIT root leaf → IsLeaf table ward_bits leaf
end_is_leaf table ward_bits leaf short end = (
  low_of end.bits,
  low_of-word end.bits (omega (arith, end.many)),
  sym (walk_from_root table ward_bits (low_of end.bits) short) ∙ ap (λ bits. walk_on (splits_above table ward_bits) bits root) (take-word-low_of end.bits LIMIT end.many (lit≤ tt)) ∙ end.ends,
)

-- ---- depth

max_cases : (a b : ℕ) → (max a b ≡ a) ⊎ (max a b ≡ b)
max_cases a b = elim (leb_tells a b) [ inl up ↦ inr (omega (arith, up.1)) | inr down ↦ inl (omega (arith, down.1)) ]

pub depth_reached : (splits : List Bool → Option ℕ) (n : ℕ) (at : Leaf) → (leaf : Leaf) × IsEnd splits n at leaf × (length leaf.prefix ≡ depth_below splits n at)
depth_reached splits zero at = (at, record { bits = []; many = refl; ends = refl }, refl)
depth_reached splits (suc n) at =
    elim (splits at.prefix) as (λ split. splits at.prefix ≡ split
    → (leaf : Leaf) × IsEnd splits (suc n) at leaf × (length leaf.prefix ≡ option_map_or (λ right. max (depth_below splits n (step at false right)) (depth_below splits n (step at true right))) split (length at.prefix))) [
      | None ↦ λ none. (at, end_here splits (suc n) at at none refl, refl)
      | Some right ↦ λ split.
          let left = depth_reached splits n (step at false right) in
          let over = depth_reached splits n (step at true right) in
          elim (max_cases (depth_below splits n (step at false right)) (depth_below splits n (step at true right))) [
            | inl first ↦ (left.0, end_after splits n at left.0 false right split left.1, left.2 ∙ sym first)
            | inr second ↦ (over.0, end_after splits n at over.0 true right split over.1, over.2 ∙ sym second)
          ]
    ] refl

deepest : (splits : List Bool → Option ℕ) (bits : List Bool) (at : Leaf) → length (walk_on splits bits at).prefix ≤ depth_below splits (length bits) at
deepest splits [] at = omega arith
deepest splits (bit ∷ bits) at =
    elim (splits at.prefix) as (λ split. length (option_map_or (λ right. walk_on splits bits (step at bit right)) split at).prefix
    ≤ option_map_or (λ right. max (depth_below splits (length bits) (step at false right)) (depth_below splits (length bits) (step at true right))) split (length at.prefix)) [
      | None ↦ omega arith
      | Some right ↦
          elim bit as (λ bit. length (walk_on splits bits (step at bit right)).prefix ≤ max (depth_below splits (length bits) (step at false right)) (depth_below splits (length bits) (step at true right))) [
            | false ↦ omega (arith, deepest splits bits (step at false right))
            | true ↦ omega (arith, deepest splits bits (step at true right))
          ]
    ]

pub depth_is : (table : TableMap) (ward_bits : ℕ) → ward_bits ≤ LIMIT → IsDepth (leaves_of table ward_bits) (depth_below (splits_above table ward_bits) LIMIT root)
depth_is table ward_bits short = record {
  reached =
      let deep = depth_reached (splits_above table ward_bits) LIMIT root in
      (deep.0.prefix, (deep.0.page, end_is_leaf table ward_bits deep.0 short deep.1), deep.2);
  greatest = λ prefix leaf.
      let end = leaf_is_end table ward_bits (record { prefix = prefix; page = leaf.0 }) short leaf.1 in
      let bound : length prefix ≤ depth_below (splits_above table ward_bits) (length end.bits) root = subst (λ (leaf : Leaf). length leaf.prefix ≤ depth_below (splits_above table ward_bits) (length end.bits) root) end.ends (deepest (splits_above table ward_bits) end.bits root) in
      subst (λ n. length prefix ≤ depth_below (splits_above table ward_bits) n root) end.many bound;
}

-- ---- the order of leaves

-- a lower bound first is less
less_by_low : (one other : List Bool) → low_of one < low_of other → prefix_cmp one other ≡ Less
less_by_low one other lower = ap (λ r. ordering_then r (nat_cmp (length one) (length other))) (sym (nat_cmp_is (low_of one) (low_of other) Less lower))

-- the low bounds of all lie from one number up to another
pub AllFrom : ℕ → ℕ → List Leaf → Type 0
AllFrom low high leaves = AllByRecursion (λ leaf. (low ≤ low_of leaf.prefix) × (low_of leaf.prefix < high)) leaves

all_append : (P : Leaf → Type 0) (xs ys : List Leaf) → AllByRecursion P xs → AllByRecursion P ys → AllByRecursion P (xs ++ ys)
all_append P [] ys first second = second
all_append P (x ∷ xs) ys first second = (first.0, all_append P xs ys first.1 second)

wider : (low high lower higher : ℕ) (leaves : List Leaf) → lower ≤ low → high ≤ higher → AllFrom low high leaves → AllFrom lower higher leaves
unfolding AllFrom
wider low high lower higher [] below above all = tt
wider low high lower higher (leaf ∷ leaves) below above all = ((omega (arith, all.0), omega (arith, all.0)), wider low high lower higher leaves below above all.1)

-- after one leaf
rest_after : (leaf : Leaf) (middle high : ℕ) (ys : List Leaf) → low_of leaf.prefix < middle → AllFrom middle high ys → AllByRecursion (λ other. prefix_cmp leaf.prefix other ≡ Less) (map (λ leaf. leaf.prefix) ys)
unfolding AllFrom
rest_after leaf middle high [] before all = tt
rest_after leaf middle high (y ∷ ys) before all = (less_by_low leaf.prefix y.prefix (omega (arith, all.0)), rest_after leaf middle high ys before all.1)

all_after : (one : List Bool) (xs ys : List Leaf) → AllByRecursion (λ other. prefix_cmp one other ≡ Less) (map (λ leaf. leaf.prefix) xs) → AllByRecursion (λ other. prefix_cmp one other ≡ Less) (map (λ leaf. leaf.prefix) ys)
    → AllByRecursion (λ other. prefix_cmp one other ≡ Less) (map (λ leaf. leaf.prefix) (xs ++ ys))
all_after one [] ys first second = second
all_after one (x ∷ xs) ys first second = (first.0, all_after one xs ys first.1 second)

-- two lists in order, of which one lies below the other
sorted_append : (low middle high : ℕ) (xs ys : List Leaf) → AllFrom low middle xs → AllFrom middle high ys → IsStrictlySortedBy prefix_cmp (map (λ leaf. leaf.prefix) xs) → IsStrictlySortedBy prefix_cmp (map (λ leaf. leaf.prefix) ys)
    → IsStrictlySortedBy prefix_cmp (map (λ leaf. leaf.prefix) (xs ++ ys))
unfolding AllFrom IsStrictlySortedBy
sorted_append low middle high [] ys first second sorted after = after
sorted_append low middle high (x ∷ xs) ys first second sorted after = (
  all_after x.prefix xs ys sorted.0 (rest_after x middle high ys first.0.1 second),
  sorted_append low middle high xs ys first.1 second sorted.1 after,
)

-- the leaves below a place lie in its range, in order
pub record AreBelow (at : Leaf) (leaves : List Leaf) : Type 0 where
  pub range : AllFrom (low_of at.prefix) (low_of at.prefix + 2 ^ (64 - length at.prefix)) leaves
  pub sorted : IsStrictlySortedBy prefix_cmp (map (λ leaf. leaf.prefix) leaves)

alone_below : (at : Leaf) → AreBelow at (at ∷ [])
unfolding AllFrom IsStrictlySortedBy
alone_below at = record { range = ((omega arith, omega (arith, pow_pos (64 - length at.prefix))), tt); sorted = (tt, tt) }

halves_below : (at : Leaf) (right : ℕ) (xs ys : List Leaf) → length at.prefix < 64 → AreBelow (step at false right) xs → AreBelow (step at true right) ys → AreBelow at (xs ++ ys)
unfolding AllFrom
halves_below at right xs ys short left over =
    let low = low_of at.prefix in
    let half = 2 ^ (63 - length at.prefix) in
    let whole : 2 ^ (64 - length at.prefix) ≡ 2 * half = ap (λ n. 2 ^ n) (let more : 64 - length at.prefix ≡ suc (63 - length at.prefix) = omega arith in more) ∙ pow-suc 2 (63 - length at.prefix) ∙ omega arith in
    let low_left : low_of (at.prefix ++ false ∷ []) ≡ low = low_of-child at.prefix false short ∙ omega arith in
    let low_over : low_of (at.prefix ++ true ∷ []) ≡ low + half = low_of-child at.prefix true short in
    let size = λ (bit : Bool). ap (λ n. 2 ^ n) (let less : 64 - length (at.prefix ++ bit ∷ []) ≡ 63 - length at.prefix = omega (arith, length_push at.prefix bit) in less) in
    let first : AllFrom low (low + half) xs = wider _ _ low (low + half) xs (omega (arith, low_left)) (omega (arith, low_left, size false)) left.range in
    let second : AllFrom (low + half) (low + 2 * half) ys = wider _ _ (low + half) (low + 2 * half) ys (omega (arith, low_over)) (omega (arith, low_over, size true)) over.range in
    record {
      range = all_append _ xs ys (wider low (low + half) low _ xs (omega arith) (omega (arith, whole)) first) (wider (low + half) (low + 2 * half) low _ ys (omega arith) (omega (arith, whole)) second);
      sorted = sorted_append low (low + half) (low + 2 * half) xs ys first second left.sorted over.sorted;
    }

pub leaves_are_below : (splits : List Bool → Option ℕ) (n : ℕ) (at : Leaf) → length at.prefix + n ≤ 64 → AreBelow at (leaves_below splits n at)
leaves_are_below splits zero at short = alone_below at
leaves_are_below splits (suc n) at short =
    elim (splits at.prefix) as (λ split. AreBelow at (option_map_or (λ right. leaves_below splits n (step at false right) ++ leaves_below splits n (step at true right)) split (at ∷ []))) [
      | None ↦ alone_below at
      | Some right ↦ halves_below at right _ _ (omega arith) (leaves_are_below splits n (step at false right) (omega (arith, length_push at.prefix false))) (leaves_are_below splits n (step at true right) (omega (arith, length_push at.prefix true)))
    ]

pub leaves_are : (table : TableMap) (ward_bits : ℕ) → ward_bits ≤ LIMIT → AreLeaves table ward_bits (leaves_below (splits_above table ward_bits) LIMIT root)
leaves_are table ward_bits short = record {
  each = λ leaf. (
    λ contains. end_is_leaf table ward_bits leaf short (contained_is_end (splits_above table ward_bits) LIMIT root leaf contains),
    λ is. end_is_contained (splits_above table ward_bits) LIMIT root leaf (leaf_is_end table ward_bits leaf short is),
  );
  ordered = (leaves_are_below (splits_above table ward_bits) LIMIT root (lit≤ tt)).sorted;
}
