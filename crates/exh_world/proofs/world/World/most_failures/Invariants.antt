use Rattle.exh_world.proofs.MostFailures.{HasMost}
use Rattle.exh_world.proofs.world.World.most_failures.Given as goal

-- of the wards so far
abbrev pub invariant-loop-ward : goal.invariant-loop-ward
invariant-loop-ward g l = HasMost g.P.Pages.failures l.ward-items l.ward-index l.most
