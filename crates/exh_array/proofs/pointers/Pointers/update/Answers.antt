use Rattle.std.proofs.Common.{◌≡◌, ℕ, ◌-◌, ◌<◌, ◌≤◌, if◌then◌else◌, nat_lt, Option, None, length, Result, Ok, Err, OnErr, max, refl, sym, ap, ◌∙◌, subst, arith}
use Rattle.std.proofs.lemmas.Bool.{lt-ltb}
use Rattle.exh_prefix.specs.declared.prefix.TheConstants.{LIMIT}
use Rattle.exh_table.specs.declared.leaf.Leaf.{Leaf}
use Rattle.exh_table.specs.Table.{TableMap}
use Rattle.exh_table.specs.Below.{splits_above, depth_below}
use Rattle.exh_array.specs.Pointers.{PointerArray}
use Rattle.exh_array.proofs.Walks.{depth_below-short}
use Rattle.exh_array.specs.Within.{walk_along}
use Rattle.exh_array.proofs.Updates.{array_told, array_unchanged, leaves_pointed, has_leaves, same_along, below_depth_of}
use Rattle.exh_array.proofs.pointers.Pointers.update.Goals as goal

-- the depth below a place, by the ward bits of the array
depth_is : (table : TableMap) (array : PointerArray) (at : Leaf) (ward_bits depth : ℕ) → ward_bits ≡ array.ward_bits → depth ≡ depth_below (splits_above table ward_bits) (LIMIT - length at.prefix) at
    → depth ≡ depth_below (splits_above table array.ward_bits) (LIMIT - length at.prefix) at
depth_is table array at ward_bits depth same is = is ∙ ap (λ n. depth_below (splits_above table n) (LIMIT - length at.prefix) at) same

on_err : {T E P : Type 0} (r : Result T E) → P → OnErr r P
on_err (Ok x) p = tt
on_err (Err e) p = p

pub returns-in_default-clause-array : goal.returns-in_default-clause-array
returns-in_default-clause-array c =
    let before = c.requires.0 in
    array_unchanged before c.args.table.now c.args.prefix c.args.self.now (subst (λ (array : PointerArray). array.ward_bits ≤ LIMIT) c.self.view_is c.self.invariant.ward_bits) c.place.ensures.within c.requires.2
    (c.in_default.ensures.place before (has_leaves before c.args.self.now c.requires.1)) c.requires.1

pub deepen-requires : goal.deepen-requires
deepen-requires c =
    let before = c.requires.0 in
    let place = c.in-Some.ensures.place before (has_leaves before c.args.self.now c.requires.1) in
    let at = c.in-Some.at in
    let depth = depth_is c.args.table.now c.args.self.now c.in-Some.at _ c.depth_below.result (ap (λ (array : PointerArray). array.ward_bits) c.self.view_is) c.depth_below.ensures in
    omega (arith, depth, depth_below-short (splits_above c.args.table.now c.args.self.now.ward_bits) (LIMIT - length at.prefix) at, ap length place.0, c.place.ensures.within)

pub returns-in_err-deepen-clause-deeper : goal.returns-in_err-deepen-clause-deeper
returns-in_err-deepen-clause-deeper c =
    let before = c.requires.0 in
    let table = c.args.table.now in
    let place = c.in-Some.ensures.place before (has_leaves before c.args.self.now c.requires.1) in
    let small : c.args.self.now.ward_bits ≤ LIMIT = subst (λ (array : PointerArray). array.ward_bits ≤ LIMIT) c.self.view_is c.self.invariant.ward_bits in
    let comes = sym (same_along before table c.args.prefix c.args.self.now.ward_bits small c.place.ensures.within c.requires.2) ∙ place.1 in
    let depth = depth_is c.args.table.now c.args.self.now c.in-Some.at _ c.depth_below.result (ap (λ (array : PointerArray). array.ward_bits) c.self.view_is) c.depth_below.ensures in
    on_err c.from_residual.result (omega (arith, depth, c.in_err-deepen.ensures.deeper, below_depth_of c.args.prefix c.args.self.now.ward_bits small c.place.ensures.within table c.in-Some.at place.0 comes))

pub returns-clause-array : goal.returns-clause-array
returns-clause-array c =
    let before = c.requires.0 in
    let place = c.in-Some.ensures.place before (has_leaves before c.args.self.now c.requires.1) in
    let small : c.args.self.now.ward_bits ≤ LIMIT = subst (λ (array : PointerArray). array.ward_bits ≤ LIMIT) c.self.view_is c.self.invariant.ward_bits in
    c.flatten.ensures.array c.args.table.now
    (leaves_pointed before c.args.table.now c.args.prefix c.in-Some.at c.args.self.now c.deepen.new.self c.point_below.new.self small c.place.ensures.within c.requires.2 place c.requires.1
    c.in_ok-deepen.ensures.ward_bits (c.in_ok-deepen.ensures.depth ∙ ap (max c.args.self.now.depth) (depth_is c.args.table.now c.args.self.now c.in-Some.at _ c.depth_below.result (ap (λ (array : PointerArray). array.ward_bits) c.self.view_is) c.depth_below.ensures)) c.in_ok-deepen.ensures.same c.point_below.ensures)

-- the split that walks go on over from the place is the one before
told_at : (table : TableMap) (at : Leaf) (ward_bits : ℕ) (split : Option ℕ) → split ≡ (if nat_lt (length at.prefix) LIMIT then splits_above table ward_bits at.prefix else None) → length at.prefix < LIMIT
    → split ≡ splits_above table ward_bits at.prefix
told_at table at ward_bits split is short = is ∙ ap (λ within. if within then splits_above table ward_bits at.prefix else None) (lt-ltb (length at.prefix) LIMIT short)

pub returns-then-goes_on_over-clause-array : goal.returns-then-goes_on_over-clause-array
returns-then-goes_on_over-clause-array c =
    let before = c.requires.0 in
    let table = c.args.table.now in
    let array = c.args.self.now in
    let at = c.in-Some.at in
    let leaves = has_leaves before array c.requires.1 in
    let place = c.in-Some.ensures.place before leaves in
    let small : array.ward_bits ≤ LIMIT = subst (λ (array : PointerArray). array.ward_bits ≤ LIMIT) c.self.view_is c.self.invariant.ward_bits in
    let comes : walk_along before array.ward_bits at.prefix ≡ at = ap (walk_along before array.ward_bits) place.0 ∙ place.1 in
    let was = c.if-goes_on_over.ensures.split refl before leaves comes in
    let is = told_at table at c.self.inside.ward_bits c.split_at.result c.split_at.ensures (c.if-goes_on_over.ensures.short refl) ∙ ap (λ n. splits_above table n at.prefix) (ap (λ (array : PointerArray). array.ward_bits) c.self.view_is) in
    array_told before table c.args.prefix array small c.place.ensures.within c.requires.2 (subst (λ p. splits_above before array.ward_bits p ≡ splits_above table array.ward_bits p) place.0 (was ∙ is)) c.requires.1
