use Rattle.std.proofs.Common.{◌≤◌}
use Rattle.exh_live.specs.Rounds.{AreKeeperTurns}
use Rattle.exh_live.proofs.live_file.LiveFile.keeper_round.Given as goal

-- a turn at each page so far, and at most one merge a page
abbrev pub invariant-loop-page : goal.invariant-loop-page
invariant-loop-page g l = record {
  turns : AreKeeperTurns g.K.Keyer.pseudokey_of l.ward l.page l.merges;
  few : l.merges ≤ l.page;
}
