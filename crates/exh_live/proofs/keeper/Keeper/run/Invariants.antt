use Rattle.std.proofs.Common.{◌+◌}
use Rattle.exh_live.specs.StormRounds.{AreKeeperRounds}
use Rattle.exh_live.specs.declared.keeper.TheConstants.{KEEPER_CLIENT}
use Rattle.exh_live.proofs.keeper.Keeper.run.Given as goal

-- the rounds so far
abbrev pub invariant-loop-done : goal.invariant-loop-done
invariant-loop-done g l = AreKeeperRounds g.K.Keyer.pseudokey_of l.self.ward (g.G.Gate.may l.gate (KEEPER_CLIENT + l.self.ward)) l.done
