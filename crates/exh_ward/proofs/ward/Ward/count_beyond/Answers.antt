use Rattle.std.proofs.Common.{◌≡◌, ◌+◌, ℕ, Option, refl, sym, ◌∙◌, subst, arith}
use Rattle.exh_ward.specs.WardState.{WardState, own_prefix}
use Rattle.exh_ward.specs.Distance.{live_between}
use Rattle.exh_ward.specs.FirstLive.{IsLivePage}
use Rattle.exh_ward.proofs.FirstSteps.{live_before, next_lives, counted_beyond, counted_all, counted_more, between_few}
use Rattle.exh_ward.proofs.ward.Ward.count_beyond.Goals as goal

pub live_at-requires : goal.live_at-requires
live_at-requires g c =
    let is = next_lives (own_prefix c.args.self.now) c.args.self.now.pages c.requires.sound.legal.legal.legal.linked c.args.first.low c.args.pseudokey c.loop-next.count c.in-Some.number c.loop-next.next c.in-Some.is c.loop-next.invariant.counted in
    subst (λ (w : WardState g.row.K.Denot). (low : ℕ) × (right : Option ℕ) × IsLivePage w.pages c.in-Some.number low right) (sym c.loop-next.invariant.same) is

pub returns-then-low-pseudokey-clause-count : goal.returns-then-low-pseudokey-clause-count
returns-then-low-pseudokey-clause-count g c =
    let is = live_before c.args.self.now c.loop-next.self c.loop-next.invariant.same c.in-Some.number c.in_ok-low.low c.in_ok-low.right c.in_ok-low.ensures.live in
    sym (counted_beyond (own_prefix c.args.self.now) c.args.self.now.pages c.requires.sound.legal.legal.legal.linked c.args.first.low c.args.pseudokey c.loop-next.count c.in-Some.number c.in_ok-low.low c.loop-next.next c.in_ok-low.right c.in-Some.is c.loop-next.invariant.counted is c.if-low-pseudokey.true)

pub returns-then-low-pseudokey-clause-few : goal.returns-then-low-pseudokey-clause-few
returns-then-low-pseudokey-clause-few g c =
    omega (arith, c.loop-next.invariant.counted.3, between_few (own_prefix c.args.self.now) c.args.self.now.pages c.requires.sound.legal.legal.legal.linked c.pages_are_few.ensures c.args.first.low c.args.pseudokey)

pub overflow_add-count : goal.overflow_add-count
overflow_add-count g c =
    omega (arith, c.loop-next.invariant.counted.3, between_few (own_prefix c.args.self.now) c.args.self.now.pages c.requires.sound.legal.legal.legal.linked c.pages_are_few.ensures c.args.first.low c.args.pseudokey)

pub loop-next-smaller : goal.loop-next-smaller
loop-next-smaller g c =
    let is = live_before c.args.self.now c.loop-next.self c.loop-next.invariant.same c.in-Some.number c.in_ok-low.low c.in_ok-low.right c.in_ok-low.ensures.live in
    let more = counted_more (own_prefix c.args.self.now) c.args.self.now.pages c.requires.sound.legal.legal.legal.linked c.args.first.low c.args.pseudokey c.loop-next.count c.in-Some.number c.in_ok-low.low c.loop-next.next c.in_ok-low.right c.in-Some.is c.loop-next.invariant.counted is c.if-low-pseudokey.false in
    let total : live_between c.args.self.now.pages c.args.first.low c.args.pseudokey ≡ c.loop-next.count + 1 + live_between c.args.self.now.pages more.1 c.args.pseudokey = more.3 in
    omega (arith, total)

pub loop-next-preserved : goal.loop-next-preserved
loop-next-preserved g c =
    let is = live_before c.args.self.now c.loop-next.self c.loop-next.invariant.same c.in-Some.number c.in_ok-low.low c.in_ok-low.right c.in_ok-low.ensures.live in
    record {
      same = c.in_ok-low.ensures.ok ∙ c.loop-next.invariant.same;
      k_same = refl;
      counted = counted_more (own_prefix c.args.self.now) c.args.self.now.pages c.requires.sound.legal.legal.legal.linked c.args.first.low c.args.pseudokey c.loop-next.count c.in-Some.number c.in_ok-low.low c.loop-next.next c.in_ok-low.right c.in-Some.is c.loop-next.invariant.counted is c.if-low-pseudokey.false;
    }

pub returns-clause-count : goal.returns-clause-count
returns-clause-count g c =
    sym (counted_all (own_prefix c.args.self.now) c.args.self.now.pages c.requires.sound.legal.legal.legal.linked c.args.first.low c.args.pseudokey c.loop-next.count c.loop-next.next c.loop-next.invariant.counted c.in_default.not-Some)

pub returns-clause-few : goal.returns-clause-few
returns-clause-few g c =
    omega (arith, c.loop-next.invariant.counted.3, between_few (own_prefix c.args.self.now) c.args.self.now.pages c.requires.sound.legal.legal.legal.linked c.pages_are_few.ensures c.args.first.low c.args.pseudokey)
