use Rattle.std.proofs.Common.{◌≡◌, ℕ, ◌+◌, ◌<◌, ◌≤◌, ◌^◌, suc, length, cond, get_or, ap, ◌∙◌, subst, arith, eq-eqb}
use Rattle.std.proofs.Math.ListN.{set}
use Rattle.std.proofs.Math.Pow.{pow_mono}
use Rattle.std.proofs.lemmas.List.{length-set}
use Rattle.std.proofs.lemmas.List.Elements.{All-set}
use Rattle.std.proofs.lemmas.Bool.{ne_eqb}
use Rattle.exh_prefix.specs.declared.prefix.TheConstants.{LIMIT}
use Rattle.exh_array.specs.declared.pointer.Pointer.{Pointer}
use Rattle.exh_array.specs.declared.pointers.Pointers.TheInside.{Inside}
use Rattle.exh_array.specs.contracts.pointers.Pointers.{the_view}
use Rattle.exh_array.specs.Pointers.{PointerArray}
use Rattle.exh_array.specs.Within.{is_deep, IsKept}
use Rattle.exh_array.proofs.Counts.{length-filter_le, length-filter_set}
use Rattle.exh_array.proofs.pointers.Pointers.set.Goals as goal
use Rattle.exh_array.proofs.pointers.Pointers.set.Goals.{then-index-self, else-index-self, then-pointer-self, else-pointer-self}

few : (deepest : ℕ) (array : PointerArray) → IsKept deepest array → deepest ≤ 2 ^ LIMIT
few deepest array kept =
    let most : 2 ^ array.depth ≤ 2 ^ LIMIT = pow_mono (kept.limit) in
    omega (arith, kept.counted, kept.full, length-filter_le (is_deep array.depth) array.pointers)

-- 1 for a pointer to a leaf of that length, else 0
abbrev one_if_deep : ℕ → Pointer → ℕ
one_if_deep depth pointer = cond (is_deep depth pointer) 1 0

deep_is_one : (depth : ℕ) (pointer : Pointer) → pointer.local_depth ≡ depth → one_if_deep depth pointer ≡ 1
deep_is_one depth pointer deep = ap (λ b. cond b 1 0) (eq-eqb _ _ deep)

other_is_zero : (depth : ℕ) (pointer : Pointer) → (pointer.local_depth ≡ depth → ⊥) → one_if_deep depth pointer ≡ 0
other_is_zero depth pointer other = ap (λ b. cond b 1 0) (ne_eqb _ _ other)

module _ (array : PointerArray) (deepest at : ℕ) (kept : IsKept deepest array) (there : at < length array.pointers) where
  -- a pointer that counts is one of those counted
  some_deep : (old : Pointer) → old ≡ get_or array.pointers at old → old.local_depth ≡ array.depth → 1 ≤ deepest
  some_deep old is deep =
      let other : Pointer = record { page = 0; local_depth = suc array.depth } in
      omega (arith, length-filter_set (is_deep array.depth) array.pointers at other old there, ap (one_if_deep array.depth) is, deep_is_one array.depth old deep, other_is_zero array.depth other (λ same. omega arith), kept.counted)

  kept_set : (pointer old : Pointer) (changed : ℕ) → pointer.local_depth ≤ array.depth → old ≡ get_or array.pointers at old
      → changed + one_if_deep array.depth old ≡ deepest + one_if_deep array.depth pointer → IsKept changed (record array { pointers = set array.pointers at pointer })
  kept_set pointer old changed within is counts = record {
    ward_bits = kept.ward_bits;
    limit = kept.limit;
    full = length-set array.pointers at pointer ∙ kept.full;
    within = All-set (λ pointer. pointer.local_depth ≤ array.depth) array.pointers at pointer within kept.within;
    counted = omega (arith, length-filter_set (is_deep array.depth) array.pointers at pointer old there, ap (one_if_deep array.depth) is, kept.counted);
  }

-- the same but for the count
abbrev HaveSame : Inside → Inside → Type 0
HaveSame one other = (other.ward_bits ≡ one.ward_bits) × (other.depth ≡ one.depth) × (other.pointers ≡ one.pointers)

kept_after : (before between after : Inside) (at : ℕ) (pointer old : Pointer) → IsKept before.deepest (the_view before) → at < length before.pointers.items → pointer.local_depth ≤ before.depth
    → old ≡ get_or before.pointers.items at old → HaveSame before between → HaveSame between after → between.deepest + one_if_deep before.depth old ≡ before.deepest → after.deepest ≡ between.deepest + one_if_deep between.depth pointer
    → IsKept after.deepest (record (the_view after) { pointers = set after.pointers.items at pointer })
kept_after before between after at pointer old kept there within is first second less more =
    let same : record (the_view before) { pointers = set before.pointers.items at pointer } ≡ record (the_view after) { pointers = set after.pointers.items at pointer } = cc in
    subst (IsKept after.deepest) same (kept_set (the_view before) before.deepest at kept there pointer old after.deepest within is (omega (arith, ap (λ n. one_if_deep n pointer) first.1)))

pub overflow_sub-self : goal.overflow_sub-self
overflow_sub-self c =
    some_deep _ _ c.args.at c.self.invariant (omega (arith, ap (λ (array : PointerArray). length array.pointers) c.self.view_is)) c.index.result.now c.index.ensures c.if-index-self.true

pub overflow_add-self : goal.overflow_add-self
overflow_add-self c =
    elim c.if-index-self.branch [
      | then-index-self w ↦ omega (arith, few _ _ c.self.invariant, ap (λ (inside : Inside). inside.deepest) w.self-inside-is)
      | else-index-self w ↦ omega (arith, few _ _ c.self.invariant, ap (λ (inside : Inside). inside.deepest) w.self-inside-is)
    ]

pub invariant_of-self : goal.invariant_of-self
invariant_of-self c =
    let there : c.args.at < length c.self.inside.pointers.items = omega (arith, ap (λ (array : PointerArray). length array.pointers) c.self.view_is) in
    let within : c.args.pointer.local_depth ≤ c.self.inside.depth = omega (arith, ap (λ (array : PointerArray). array.depth) c.self.view_is) in
    let some = some_deep _ _ c.args.at c.self.invariant there c.index.result.now c.index.ensures in
    let first : HaveSame c.self.inside c.if-index-self.self-inside = elim c.if-index-self.branch [ then-index-self w ↦ (cc, cc, cc) | else-index-self w ↦ (cc, cc, cc) ] in
    let second : HaveSame c.if-index-self.self-inside c.if-pointer-self.self-inside = elim c.if-pointer-self.branch [ then-pointer-self w ↦ (cc, cc, cc) | else-pointer-self w ↦ (cc, cc, cc) ] in
    let less : c.if-index-self.self-inside.deepest + one_if_deep c.self.inside.depth c.index.result.now ≡ c.self.inside.deepest = elim c.if-index-self.branch [
      | then-index-self w ↦ omega (arith, some w.if-index-self.true, deep_is_one _ c.index.result.now w.if-index-self.true, ap (λ (inside : Inside). inside.deepest) w.self-inside-is)
      | else-index-self w ↦ omega (arith, other_is_zero _ c.index.result.now w.if-index-self.false, ap (λ (inside : Inside). inside.deepest) w.self-inside-is)
    ] in
    let more : c.if-pointer-self.self-inside.deepest ≡ c.if-index-self.self-inside.deepest + one_if_deep c.if-index-self.self-inside.depth c.args.pointer = elim c.if-pointer-self.branch [
      | then-pointer-self w ↦ omega (arith, deep_is_one _ c.args.pointer w.if-pointer-self.true, ap (λ (inside : Inside). inside.deepest) w.self-inside-is)
      | else-pointer-self w ↦ omega (arith, other_is_zero _ c.args.pointer w.if-pointer-self.false, ap (λ (inside : Inside). inside.deepest) w.self-inside-is)
    ] in
    kept_after c.self.inside c.if-index-self.self-inside c.if-pointer-self.self-inside c.args.at c.args.pointer c.index.result.now c.self.invariant there within c.index.ensures first second less more
