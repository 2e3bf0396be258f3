use Rattle.std.proofs.Common.{◌≡◌, suc, ◌-◌, ◌*◌, ◌/◌, ◌^◌, ◌<◌, [], length, take, filter, refl, sym, ap, ◌∙◌, subst, arith}
use Rattle.std.proofs.Math.Nat.{pow-suc}
use Rattle.std.proofs.lemmas.Option.{slice_get_read}
use Rattle.exh_array.specs.Pointers.{PointerArray}
use Rattle.exh_array.specs.Within.{is_deep, IsKept, HasLeavesOf}
use Rattle.exh_array.proofs.Deeper.{deepened}
use Rattle.exh_array.proofs.Halved.{AreMoved, moved_none, moved_more, AreEveryOther, moved_all, halved_kept, halved_leaves}
use Rattle.exh_array.proofs.pointers.Pointers.halve.Goals as goal

pub loop-at-init : goal.loop-at-init
loop-at-init c = record { ward_bits = refl; depth = refl; moved = moved_none c.self.inside.pointers.items }

pub loop-at-preserved : goal.loop-at-preserved
loop-at-preserved c =
    let pointers = c.loop-at.self-inside.pointers.items in
    let within : 2 * c.loop-at.at < length c.self.inside.pointers.items = omega arith in
    record {
      ward_bits = c.loop-at.invariant.ward_bits;
      depth = c.loop-at.invariant.depth;
      moved = moved_more c.loop-at.at c.self.inside.pointers.items pointers c.index.result.now c.loop-at.invariant.moved within (slice_get_read pointers (length pointers) (2 * c.loop-at.at) c.index.result.now refl (omega (arith, c.loop-at.invariant.moved.many)) c.index.ensures);
    }

pub overflow_sub-self : goal.overflow_sub-self
overflow_sub-self c = omega (arith, c.requires.some, ap (λ (array : PointerArray). array.depth) c.self.view_is, c.loop-at.invariant.depth)

before : goal.After-self-3-1 → PointerArray
before c = record { ward_bits = c.self.inside.ward_bits; depth = c.self.inside.depth; pointers = c.self.inside.pointers.items }

less : (c : goal.After-self-3-1) → c.self.inside.depth ≡ suc (c.self.inside.depth - 1)
less c = omega (arith, c.requires.some, ap (λ (array : PointerArray). array.depth) c.self.view_is)

flat : (c : goal.After-self-3-1) → filter (is_deep c.self.inside.depth) c.self.inside.pointers.items ≡ []
flat c = subst (λ (array : PointerArray). filter (is_deep array.depth) array.pointers ≡ []) (sym c.self.view_is) c.requires.flat

-- half of the pointers are left
left : (c : goal.After-self-3-1) → AreEveryOther (2 ^ (c.self.inside.depth - 1)) c.self.inside.pointers.items c.truncate.new.self.items
left c =
    let twice : 2 ^ c.self.inside.depth ≡ 2 ^ (c.self.inside.depth - 1) * 2 = ap (λ n. 2 ^ n) (less c) ∙ pow-suc 2 (c.self.inside.depth - 1) in
    let half : c.len-half.result / 2 ≡ 2 ^ (c.self.inside.depth - 1) = omega (arith, twice, c.self.invariant.full) in
    let end : c.loop-at.at ≡ c.len-half.result / 2 = omega (arith, c.loop-at-test.false, c.loop-at.auto) in
    let moved = subst (λ n. AreMoved n c.self.inside.pointers.items c.loop-at.self-inside.pointers.items) end c.loop-at.invariant.moved in
    subst (AreEveryOther (2 ^ (c.self.inside.depth - 1)) c.self.inside.pointers.items) (sym c.truncate.ensures.items)
    (subst (λ n. AreEveryOther n c.self.inside.pointers.items (take (c.len-half.result / 2) c.loop-at.self-inside.pointers.items)) half
    (moved_all (c.len-half.result / 2) c.self.inside.pointers.items c.loop-at.self-inside.pointers.items moved (omega arith)))

halved : goal.After-self-3-1 → PointerArray
halved c = record { ward_bits = c.loop-at.self-inside.ward_bits; depth = c.loop-at.self-inside.depth - 1; pointers = c.truncate.new.self.items }

halved_is : (c : goal.After-self-3-1) → halved c ≡ deepened (before c) (c.self.inside.depth - 1) c.truncate.new.self.items
unfolding before halved
halved_is c =
    ap (λ n. record { ward_bits = n; depth = c.loop-at.self-inside.depth - 1; pointers = c.truncate.new.self.items }) c.loop-at.invariant.ward_bits
    ∙ ap (λ n. record { ward_bits = c.self.inside.ward_bits; depth = n - 1; pointers = c.truncate.new.self.items }) c.loop-at.invariant.depth

pub invariant_of-self : goal.invariant_of-self
unfolding before halved
invariant_of-self c =
    let counted : c.deepest_in-self-inside.result ≡ length (filter (is_deep (c.self.inside.depth - 1)) c.truncate.new.self.items) =
    c.deepest_in-self-inside.ensures ∙ ap (λ n. length (filter (is_deep (n - 1)) c.deref.result.now)) c.loop-at.invariant.depth ∙ ap (λ pointers. length (filter (is_deep (c.self.inside.depth - 1)) pointers)) c.deref.ensures.value in
    subst (IsKept c.deepest_in-self-inside.result) (sym (halved_is c))
    (subst (λ n. IsKept n (deepened (before c) (c.self.inside.depth - 1) c.truncate.new.self.items)) (sym counted)
    (halved_kept c.self.inside.deepest (before c) c.self.invariant (flat c) (c.self.inside.depth - 1) (less c) c.truncate.new.self.items (left c)))

pub returns-clause-ward_bits : goal.returns-clause-ward_bits
returns-clause-ward_bits c = c.loop-at.invariant.ward_bits ∙ ap (λ (array : PointerArray). array.ward_bits) c.self.view_is

pub returns-clause-depth : goal.returns-clause-depth
returns-clause-depth c = ap (λ n. n - 1) (c.loop-at.invariant.depth ∙ ap (λ (array : PointerArray). array.depth) c.self.view_is)

pub returns-clause-leaves : goal.returns-clause-leaves
unfolding before halved
returns-clause-leaves c table has =
    subst (HasLeavesOf table) (sym (halved_is c))
    (halved_leaves c.self.inside.deepest (before c) c.self.invariant (flat c) (c.self.inside.depth - 1) (less c) c.truncate.new.self.items (left c) table (subst (HasLeavesOf table) (sym c.self.view_is) has))
