use Rattle.std.proofs.Common.{ℕ, ◌+◌, ◌^◌, ◌<◌, ◌≤◌, refl, ap, ◌∙◌, subst, arith}
use Rattle.std.proofs.lemmas.Result.{IfOk-from_err}
use Rattle.exh_live.specs.Rounds.{AreFirstCursors}
use Rattle.exh_live.specs.StormRounds.{AreCourierRounds}
use Rattle.exh_live.specs.declared.courier.TheConstants.{COURIER_CLIENT}
use Rattle.exh_live.proofs.RoundsOn.{courier_round_more, so_many}
use Rattle.exh_live.proofs.courier.Courier.run.Goals as goal

some_turn : (done : ℕ) → 1 ≤ done + 1
some_turn done = omega arith

turn_within : {done rounds : ℕ} → done < rounds → done + 1 ≤ rounds
turn_within within = omega arith

pub loop-done-init : goal.loop-done-init
loop-done-init g c = record {
  cursors = c.in_ok-cursors.ensures.0 ∙ ap (λ bits. 2 ^ bits) c.requires.bits;
  number = refl;
  name = refl;
  rounds = (refl, refl);
}

pub loop-done-preserved : goal.loop-done-preserved
loop-done-preserved g c =
    let was = c.loop-done.invariant in
    let may = g.G.Gate.may c.args.gate.now in
    let turn = c.loop-done.done + 1 in
    let says = subst (λ number. may (COURIER_CLIENT + number) turn c.pass.result) (c.from.ensures ∙ was.number) c.pass.ensures in
    let carried = c.in_ok-notices.ensures.carried in
    record {
      cursors = omega (arith, c.in_ok-notices.ensures.cursors, was.cursors);
      number = was.number;
      name = c.in_ok-notices.ensures.name ∙ was.name;
      rounds =
          courier_round_more g.K.Keyer.pseudokey_of (may (COURIER_CLIENT + c.args.self.now.number)) c.loop-done.done c.args.self.now.copy.writer c.loop-done.self.copy.writer c.courier_round.new.copy c.in_ok-cursors.cursors c.loop-done.cursors c.courier_round.new.cursors c.pass.result was.rounds
          says c.if-not-pass.false (carried.0, carried.1, carried.3, carried.4);
    }

pub returns-in_err-cursors-clause-rounds : goal.returns-in_err-cursors-clause-rounds
returns-in_err-cursors-clause-rounds g c = IfOk-from_err c.from_residual.result _ c.from_residual.ensures.0

pub returns-in_err-cursors-clause-number : goal.returns-in_err-cursors-clause-number
returns-in_err-cursors-clause-number g c = refl

pub returns-in_err-cursors-clause-name : goal.returns-in_err-cursors-clause-name
returns-in_err-cursors-clause-name g c = refl

pub returns-then-not-pass-clause-number : goal.returns-then-not-pass-clause-number
returns-then-not-pass-clause-number g c = c.loop-done.invariant.number

pub returns-then-not-pass-clause-name : goal.returns-then-not-pass-clause-name
returns-then-not-pass-clause-name g c = c.loop-done.invariant.name

pub returns-then-not-pass-clause-rounds : goal.returns-then-not-pass-clause-rounds
returns-then-not-pass-clause-rounds g c = tt

pub returns-then-not-pass-clause-fault : goal.returns-then-not-pass-clause-fault
returns-then-not-pass-clause-fault g c =
    let may = g.G.Gate.may c.args.gate.now in
    let turn = c.loop-done.done + 1 in
    let says = subst (λ number. may (COURIER_CLIENT + number) turn c.pass.result) (c.from.ensures ∙ c.loop-done.invariant.number) c.pass.ensures in
    (turn, some_turn c.loop-done.done, turn_within c.loop-done-test.true, subst (λ answer. may (COURIER_CLIENT + c.args.self.now.number) turn answer) c.if-not-pass.true says)

pub returns-in_err-notices-clause-rounds : goal.returns-in_err-notices-clause-rounds
returns-in_err-notices-clause-rounds g c = IfOk-from_err c.from_residual-in_err-notices.result _ c.from_residual-in_err-notices.ensures.0

pub returns-in_err-notices-clause-number : goal.returns-in_err-notices-clause-number
returns-in_err-notices-clause-number g c = c.loop-done.invariant.number

pub returns-in_err-notices-clause-name : goal.returns-in_err-notices-clause-name
returns-in_err-notices-clause-name g c = c.in_err-notices.ensures.name ∙ c.loop-done.invariant.name

pub returns-clause-number : goal.returns-clause-number
returns-clause-number g c = c.loop-done.invariant.number

pub returns-clause-name : goal.returns-clause-name
returns-clause-name g c = c.loop-done.invariant.name

pub returns-clause-rounds : goal.returns-clause-rounds
returns-clause-rounds g c =
    let may = g.G.Gate.may c.args.gate.now (COURIER_CLIENT + c.args.self.now.number) in
    let rounds = subst (λ count. AreCourierRounds g.K.Keyer.pseudokey_of may count c.args.self.now.copy.writer c.in_ok-cursors.cursors c.loop-done.self.copy.writer c.loop-done.cursors) (so_many c.loop-done-test.false c.loop-done.auto.done-end) c.loop-done.invariant.rounds in
    let first = subst (λ table. AreFirstCursors c.args.ward_bits table c.in_ok-cursors.cursors) c.new.ensures c.in_ok-cursors.ensures in
    (c.in_ok-cursors.cursors, c.loop-done.cursors, first, rounds)

pub returns-clause-fault : goal.returns-clause-fault
returns-clause-fault g c = tt
