use Rattle.exh_everyday.proofs.Takings.{taken_none, taken_one}
use Rattle.exh_everyday.proofs.deletion.take_out.Goals as goal

pub loop-key-init : goal.loop-key-init
loop-key-init c = taken_none c.args.store.now.map c.args.found.now

pub loop-key-preserved : goal.loop-key-preserved
loop-key-preserved c =
    taken_one c.args.store.now.map c.loop-key.store.map c.take_one.new.store.map c.args.keys.now c.loop-key.key-index c.key-item.result c.args.found.now c.loop-key.found c.take_one.new.found
    c.loop-key-test.true c.key-item.is c.loop-key.invariant c.in_ok-take_one.ensures.taken
