use Rattle.std.proofs.Common.{◌≡◌, ℕ, ◌+◌, ◌-◌, ◌*◌, ◌%◌, ◌^◌, ◌≤◌, List, Bool, length, ap, sym, ◌∙◌, subst, arith, refl}
use Rattle.std.proofs.Math.ListN.{set}
use Rattle.std.proofs.Math.Pow.{pow_mono}
use Rattle.exh_prefix.specs.Prefix.{low_of}
use Rattle.exh_prefix.specs.declared.prefix.TheConstants.{LIMIT}
use Rattle.exh_prefix.specs.Leading.{leading}
use Rattle.exh_array.specs.Pointers.{PointerArray, pointer_to}
use Rattle.exh_array.specs.Within.{IsKept}
use Rattle.exh_array.proofs.Ranges.{room, range_end, IsFilled, filled_more, filled_inside, filled_outside}
use Rattle.exh_array.proofs.pointers.Pointers.point.Goals as goal

-- the places from one to another are those of the prefix
record IsRange (array : PointerArray) (prefix : List Bool) (from to : ℕ) : Type 0 where
  first : from ≡ leading array.depth (low_of prefix)
  last : to ≡ from + room array.depth prefix
  within : to ≤ length array.pointers
  deep : array.depth ≤ 64
  full : length array.pointers ≡ 2 ^ array.depth
  small : to ≤ 2 ^ LIMIT

-- as they are computed
range_of : (array : PointerArray) (deepest : ℕ) → IsKept deepest array → (depth len from low to : ℕ) (prefix : List Bool) → depth ≡ array.depth → len ≡ length prefix → low ≡ low_of prefix → from ≡ leading depth low
    → length prefix ≤ array.depth → to ≡ from + 1 * 2 ^ (depth - len) % 18446744073709551616 → IsRange array prefix from to
range_of array deepest kept depth len from low to prefix depth_is len_is low_is from_is short to_is =
    let few : array.depth - length prefix ≤ LIMIT = omega (arith, kept.limit) in
    let most : 2 ^ (array.depth - length prefix) ≤ 2 ^ LIMIT = pow_mono few in
    let whole : 2 ^ array.depth ≤ 2 ^ LIMIT = pow_mono kept.limit in
    let same : 2 ^ (depth - len) ≡ room array.depth prefix = ap (λ n. 2 ^ (depth - n)) len_is ∙ ap (λ n. 2 ^ (n - length prefix)) depth_is in
    let first : from ≡ leading array.depth (low_of prefix) = from_is ∙ ap (leading depth) low_is ∙ ap (λ n. leading n (low_of prefix)) depth_is in
    let last : to ≡ from + room array.depth prefix = omega (arith, same) in
    let within : to ≤ 2 ^ array.depth = omega (arith, range_end array.depth prefix short (omega (arith, kept.limit))) in
    record { first = first; last = last; within = omega (arith, kept.full); deep = omega (arith, kept.limit); full = kept.full; small = omega arith }

pub overflow_add-to : goal.overflow_add-to
overflow_add-to c =
    let range = range_of _ _ (subst (IsKept c.self.inside.deepest) c.self.view_is c.self.invariant) c.self.inside.depth c.len.result c.leading-from.result c.low.result _ c.args.leaf.now.prefix (ap (λ (array : PointerArray). array.depth) c.self.view_is) c.len.ensures.length c.low.ensures c.leading-from.ensures c.requires refl in
    omega (arith, range.small)

pub set-requires-clause-there : goal.set-requires-clause-there
set-requires-clause-there c =
    let range = range_of _ _ (subst (IsKept c.self.inside.deepest) c.self.view_is c.self.invariant) c.self.inside.depth c.len.result c.leading-from.result c.low.result _ c.args.leaf.now.prefix (ap (λ (array : PointerArray). array.depth) c.self.view_is) c.len.ensures.length c.low.ensures c.leading-from.ensures c.requires refl in
    omega (arith, range.within, c.loop-at.invariant.full)

pub loop-at-preserved : goal.loop-at-preserved
loop-at-preserved c =
    let range = range_of _ _ (subst (IsKept c.self.inside.deepest) c.self.view_is c.self.invariant) c.self.inside.depth c.len.result c.leading-from.result c.low.result _ c.args.leaf.now.prefix (ap (λ (array : PointerArray). array.depth) c.self.view_is) c.len.ensures.length c.low.ensures c.leading-from.ensures c.requires refl in
    subst (λ array. IsFilled c.args.self.now array c.leading-from.result (c.loop-at.at + 1) (pointer_to c.args.leaf.now)) (ap (λ len. record c.loop-at.self { pointers = set c.loop-at.self.pointers c.loop-at.at (record { page = c.args.leaf.now.page; local_depth = len }) }) (sym c.len-in-loop-at.ensures.length) ∙ sym c.set.ensures)
    (filled_more c.args.self.now c.loop-at.self c.leading-from.result c.loop-at.at (pointer_to c.args.leaf.now) c.loop-at.auto.at (omega (arith, range.within)) c.loop-at.invariant)

pub returns-clause-inside : goal.returns-clause-inside
returns-clause-inside c pseudokey small begins =
    let range = range_of _ _ (subst (IsKept c.self.inside.deepest) c.self.view_is c.self.invariant) c.self.inside.depth c.len.result c.leading-from.result c.low.result _ c.args.leaf.now.prefix (ap (λ (array : PointerArray). array.depth) c.self.view_is) c.len.ensures.length c.low.ensures c.leading-from.ensures c.requires refl in
    filled_inside c.args.self.now c.loop-at.self c.args.leaf.now.prefix c.leading-from.result c.loop-at.at (pointer_to c.args.leaf.now) c.loop-at.invariant c.requires range.deep range.full range.first (omega (arith, range.last)) pseudokey begins

pub returns-clause-outside : goal.returns-clause-outside
returns-clause-outside c pseudokey small other =
    let range = range_of _ _ (subst (IsKept c.self.inside.deepest) c.self.view_is c.self.invariant) c.self.inside.depth c.len.result c.leading-from.result c.low.result _ c.args.leaf.now.prefix (ap (λ (array : PointerArray). array.depth) c.self.view_is) c.len.ensures.length c.low.ensures c.leading-from.ensures c.requires refl in
    filled_outside c.args.self.now c.loop-at.self c.args.leaf.now.prefix c.leading-from.result c.loop-at.at (pointer_to c.args.leaf.now) c.loop-at.invariant c.requires range.deep range.full range.first (omega (arith, range.last)) pseudokey other
