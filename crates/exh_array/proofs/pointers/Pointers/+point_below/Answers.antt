use Rattle.std.proofs.Common.{◌≡◌, ◌<◌, ◌≤◌, ◌-◌, ℕ, length, Bool, true, false, Option, Some, None, if◌then◌else◌, nat_lt, sym, ap, ◌∙◌, subst, arith}
use Rattle.exh_prefix.specs.declared.prefix.TheConstants.{LIMIT}
use Rattle.exh_table.specs.declared.leaf.Leaf.{Leaf}
use Rattle.exh_table.specs.Table.{TableMap}
use Rattle.exh_table.specs.TableWalk.{step}
use Rattle.exh_table.specs.Below.{splits_above, depth_below}
use Rattle.exh_table.specs.WalkLemmas.{goes_on}
use Rattle.exh_array.specs.Pointers.{PointerArray}
use Rattle.exh_array.specs.Within.{IsPointedBelow}
use Rattle.exh_array.proofs.Below.{one_fewer, within_limit, depth_below-step, below_end, below_both}
use Rattle.exh_array.proofs.pointers.Pointers.+point_below.Goals as goal

-- the answer of `split_at`, by the ward bits of the array
split_is : (table : TableMap) (array : PointerArray) (at : Leaf) (ward_bits : ℕ) (result split : Option ℕ) → ward_bits ≡ array.ward_bits
    → result ≡ (if nat_lt (length at.prefix) LIMIT then splits_above table ward_bits at.prefix else None) → result ≡ split → (if nat_lt (length at.prefix) LIMIT then splits_above table array.ward_bits at.prefix else None) ≡ split
split_is table array at ward_bits result split same is now =
    ap (λ n. if nat_lt (length at.prefix) LIMIT then splits_above table n at.prefix else None) (sym same) ∙ sym is ∙ now

-- what is asked of the place one bit further
next_fits : (table : TableMap) (array : PointerArray) (at next : Leaf) (right : ℕ) (bit : Bool) → length at.prefix < LIMIT → splits_above table array.ward_bits at.prefix ≡ Some right → next ≡ step at bit right
    → depth_below (splits_above table array.ward_bits) (LIMIT - length at.prefix) at ≤ array.depth
    → (LIMIT - length next.prefix < LIMIT - length at.prefix) × (length next.prefix ≤ LIMIT) × (depth_below (splits_above table array.ward_bits) (LIMIT - length next.prefix) next ≤ array.depth)
next_fits table array at next right bit short split is deep =
    subst (λ (next : Leaf). (LIMIT - length next.prefix < LIMIT - length at.prefix) × (length next.prefix ≤ LIMIT) × (depth_below (splits_above table array.ward_bits) (LIMIT - length next.prefix) next ≤ array.depth)) (sym is)
    (omega (arith, one_fewer at right short bit), within_limit at right short bit, omega (arith, depth_below-step at right short (splits_above table array.ward_bits) bit split))

pub returns-in_default : goal.returns-in_default
returns-in_default t c =
    below_end c.args.table.now c.args.at.now c.args.self.now c.point.new.self c.requires.within
    (split_is c.args.table.now c.args.self.now c.args.at.now _ _ _ (ap (λ (array : PointerArray). array.ward_bits) c.self.view_is) c.split_at.ensures c.in_default.is)
    c.point.ensures.ward_bits c.point.ensures.depth c.point.ensures.inside c.point.ensures.outside

pub point_below-requires : goal.point_below-requires
point_below-requires t c =
    let goes = goes_on (splits_above c.args.table.now c.args.self.now.ward_bits) c.args.at.now.prefix c.in-Some.right (split_is c.args.table.now c.args.self.now c.args.at.now _ _ _ (ap (λ (array : PointerArray). array.ward_bits) c.self.view_is) c.split_at.ensures c.in-Some.is) in
    let fits = next_fits c.args.table.now c.args.self.now c.args.at.now c.step.result c.in-Some.right false goes.0 goes.1 c.step.ensures c.requires.deep in
    (omega (arith, c.decreases, fits.0), (fits.1, fits.2))

pub point_below-requires-2 : goal.point_below-requires-2
point_below-requires-2 t c =
    let goes = goes_on (splits_above c.args.table.now c.args.self.now.ward_bits) c.args.at.now.prefix c.in-Some.right (split_is c.args.table.now c.args.self.now c.args.at.now _ _ _ (ap (λ (array : PointerArray). array.ward_bits) c.self.view_is) c.split_at.ensures c.in-Some.is) in
    let fits = next_fits c.args.table.now c.args.self.now c.args.at.now c.step-2.result c.in-Some.right true goes.0 goes.1 c.step-2.ensures c.requires.deep in
    let same = ap (λ n. depth_below (splits_above c.args.table.now n) (LIMIT - length c.step-2.result.prefix) c.step-2.result) c.point_below.ensures.ward_bits in
    (omega (arith, c.decreases, fits.0), (fits.1, omega (arith, same, fits.2, c.point_below.ensures.depth)))

pub returns : goal.returns
returns t c =
    let goes = goes_on (splits_above c.args.table.now c.args.self.now.ward_bits) c.args.at.now.prefix c.in-Some.right (split_is c.args.table.now c.args.self.now c.args.at.now _ _ _ (ap (λ (array : PointerArray). array.ward_bits) c.self.view_is) c.split_at.ensures c.in-Some.is) in
    below_both c.args.table.now c.args.at.now c.in-Some.right c.args.self.now c.point_below.new.self c.point_below-2.new.self goes.0 goes.1
    (subst (λ next. IsPointedBelow c.args.table.now next c.args.self.now c.point_below.new.self) c.step.ensures c.point_below.ensures)
    (subst (λ next. IsPointedBelow c.args.table.now next c.point_below.new.self c.point_below-2.new.self) c.step-2.ensures c.point_below-2.ensures)
