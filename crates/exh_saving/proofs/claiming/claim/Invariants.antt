use Rattle.std.proofs.Common.{◌≡◌, take}
use Rattle.std.specs.List.{All}
use Rattle.std.specs.Option.{option_copied}
use Rattle.exh_saving.specs.Claimed.{IsTakenBeside}
use Rattle.exh_saving.specs.Names.{suffixes}
use Rattle.exh_saving.proofs.claiming.claim.Given as goal

abbrev pub invariant-loop-turn : goal.invariant-loop-turn
invariant-loop-turn g l = record {
  same : g.D.Disk.history l.disk l.path ≡ g.D.Disk.history l.initial.disk l.path;
  taken : All (IsTakenBeside g.D.Disk.answers l.path (option_copied l.old)) (take l.turn suffixes);
}
