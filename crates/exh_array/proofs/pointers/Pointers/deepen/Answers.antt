use Rattle.std.proofs.Common.{◌≡◌, ◌+◌, ◌-◌, ◌/◌, ◌^◌, slice_get, Some, sym, subst, arith}
use Rattle.std.proofs.lemmas.Nat.{pow_pos}
use Rattle.std.proofs.lemmas.Option.{slice_get_read}
use Rattle.exh_array.specs.Pointers.{PointerArray}
use Rattle.exh_array.specs.Within.{PointTheSame}
use Rattle.exh_array.proofs.Deeper.{AreRepeated, repeated_none, repeated_more, repeated_within, shifted, deepened, deeper_same, deeper_kept}
use Rattle.exh_array.proofs.pointers.Pointers.deepen.Goals as goal

pub loop-at-init : goal.loop-at-init
loop-at-init c = (subst (AreRepeated _ 0 c.self.inside.pointers.items) (sym c.in_ok-pointers.ensures.items) (repeated_none _ c.self.inside.pointers.items), omega (arith, c.in_ok-pointers.ensures.capacity))

pub loop-at-preserved : goal.loop-at-preserved
loop-at-preserved c =
    let times = 2 ^ (c.args.depth - c.self.inside.depth) in
    let next : slice_get c.self.inside.pointers.items (c.loop-at.at / times) ≡ Some c.index.result.now =
    slice_get_read c.self.inside.pointers.items c.len.result (c.loop-at.at / times) c.index.result.now (omega arith) (repeated_within c.len.result times c.loop-at.at (pow_pos (c.args.depth - c.self.inside.depth)) c.loop-at-test.true) c.index.ensures in (
      subst (AreRepeated times (c.loop-at.at + 1) c.self.inside.pointers.items) (sym c.push_reserved.ensures.items)
          (repeated_more times c.loop-at.at c.self.inside.pointers.items c.loop-at.pointers.items c.index.result.now c.loop-at.invariant.0 next),
      omega (arith, c.loop-at.invariant.1, c.push_reserved.ensures.capacity),
    )

before : goal.After-self-2-1 → PointerArray
before c = record { ward_bits = c.self.inside.ward_bits; depth = c.self.inside.depth; pointers = c.self.inside.pointers.items }

deeper : (c : goal.After-self-2-1) → c.self.inside.depth + (c.args.depth - c.self.inside.depth) ≡ c.args.depth
deeper c = omega arith

-- the loop has made as many pointers as there are to be
all_made : (c : goal.After-self-2-1) → AreRepeated (2 ^ (c.args.depth - c.self.inside.depth)) (2 ^ c.args.depth) c.self.inside.pointers.items c.loop-at.pointers.items
all_made c =
    let many : c.loop-at.at ≡ 2 ^ c.args.depth =
    omega (arith, shifted c.self.inside.depth (c.args.depth - c.self.inside.depth) c.args.depth c.len.result (deeper c) c.requires (omega arith), c.loop-at-test.false, c.loop-at.auto) in
    subst (λ n. AreRepeated (2 ^ (c.args.depth - c.self.inside.depth)) n c.self.inside.pointers.items c.loop-at.pointers.items) many c.loop-at.invariant.0

pub invariant_of-self : goal.invariant_of-self
unfolding before
invariant_of-self c = deeper_kept (before c) c.args.depth (c.args.depth - c.self.inside.depth) c.loop-at.pointers.items (deeper c) c.requires (all_made c) c.self.inside.deepest c.self.invariant (omega arith)

pub returns-clause-same : goal.returns-clause-same
unfolding before
returns-clause-same c =
    subst (λ (old : PointerArray). PointTheSame (deepened (before c) c.args.depth c.loop-at.pointers.items) old) c.self.view_is
    (deeper_same (before c) c.args.depth (c.args.depth - c.self.inside.depth) c.loop-at.pointers.items (deeper c) c.requires (all_made c))
