use Rattle.std.proofs.Common.{◌≤◌, arith}
use Rattle.exh_live.proofs.Rounds.{batch_of_wards, batch_on, handed_into, turn_within}
use Rattle.exh_live.proofs.live_file.LiveFile.push_of_ward.Goals as goal

pub returns-clause-few : goal.returns-clause-few
returns-clause-few g c = (c.count_above-count.result, (_, c.count_above-count.ensures.sound, c.count_above-count.ensures.count), omega (arith, c.loop-left.invariant.1))

pub loop-left-preserved : goal.loop-left-preserved
loop-left-preserved g c =
    let most : c.min.result ≤ c.min-most.result = omega (arith, c.min.ensures) in
    let pushed = c.in_ok-last.ensures in
    let turn = turn_within c.args.number c.min.result c.min-most.result c.deref-in-loop-left-3.result.now c.loop-left.notices.items c.push_next.new.notices.items c.loop-left.last c.in_ok-last.last most pushed in (
      batch_on c.args.number _ c.args.notices.now.items c.loop-left.notices.items c.push_next.new.notices.items c.args.cursor c.loop-left.last c.in_ok-last.last c.loop-left.invariant.0 pushed,
      omega (arith, turn, c.loop-left.invariant.1, c.min-most.ensures),
      λ of_old.
          batch_of_wards g.K.Keyer.pseudokey_of c.args.number c.min.result c.deref-in-loop-left-3.result.now c.loop-left.notices.items c.push_next.new.notices.items c.loop-left.last c.in_ok-last.last
          (handed_into g.K.Keyer.pseudokey_of _ c.loop-left.last _ _ c.deref-in-loop-left-3.result.now c.hand_out.ensures.sound c.clear.ensures.items c.in_ok-hand_out.ensures.ok c.deref-in-loop-left-3.ensures.value) pushed (c.loop-left.invariant.2 of_old),
    )

pub returns-clause-wards : goal.returns-clause-wards
returns-clause-wards g c = c.loop-left.invariant.2
