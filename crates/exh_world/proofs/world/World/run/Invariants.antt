use Rattle.std.proofs.Common.{◌+◌, ◌-◌, ◌≤◌, length, take, vec_len, vec_capacity}
use Rattle.exh_world.specs.Sound.{IsSoundWorld}
use Rattle.exh_world.proofs.Runs.{HasRun}
use Rattle.exh_world.proofs.world.World.run.Given as goal

-- the events so far were turned, the world is sound, and the turns have room for the rest
abbrev pub invariant-loop-event : goal.invariant-loop-event
invariant-loop-event g l = record {
  has_run : HasRun g.K.Keyer.pseudokey_of l.fn.self (take l.event-index l.events) l.turns.items l.self;
  sound : IsSoundWorld g.K.Keyer.pseudokey_of l.self;
  room : vec_len l.turns + (length l.events - l.event-index) ≤ vec_capacity l.turns;
}
