use Rattle.std.proofs.Common.{◌+◌, subst}
use Rattle.exh_live.specs.declared.keeper.TheConstants.{KEEPER_CLIENT}
use Rattle.exh_live.specs.Refused.{IsSomeWardsFault}
use Rattle.exh_ward.specs.declared.ward_fault.WardFault.{WardFault}
use Rattle.exh_live.proofs.RoundsOn.{keeper_refused, keeper_round_more}
use Rattle.exh_live.proofs.keeper.Keeper.run.Goals as goal

pub returns-in-Err-clause-fault : goal.returns-in-Err-clause-fault
returns-in-Err-clause-fault g c =
    let Refused : WardFault → Type 0 = IsSomeWardsFault g.P.Pages.failures g.K.Keyer.pseudokey_of in
    keeper_refused (g.G.Gate.may c.args.gate.now (KEEPER_CLIENT + c.args.self.ward)) c.args.rounds c.in-Err.fault c.of_round.result c.in-Err.ensures.fault c.of_round.ensures (λ is. subst Refused is c.in-Err.ensures.refused)

pub loop-done-preserved : goal.loop-done-preserved
loop-done-preserved g c =
    let may = g.G.Gate.may c.args.gate.now in
    let turn = c.loop-done.done + 1 in
    let says = subst (λ ward. may (KEEPER_CLIENT + ward) turn c.pass.result) c.from.ensures c.pass.ensures in
    keeper_round_more (may (KEEPER_CLIENT + c.args.self.ward)) g.K.Keyer.pseudokey_of c.args.self.ward c.loop-done.done c.in-Ok.merges c.pass.result c.loop-done.invariant says c.if-not-pass.false c.in-Ok.ensures.round
