use Rattle.std.proofs.Common.{◌≡◌}
use Rattle.exh_saving.proofs.old.clear_names.Given as goal

abbrev pub invariant-loop-turn : goal.invariant-loop-turn
invariant-loop-turn g l = g.D.Disk.history l.disk l.path ≡ g.D.Disk.history l.initial.disk l.path
