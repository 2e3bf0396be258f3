use Rattle.std.specs.Prelude.{◌≡◌}
use Rattle.exh_fakes.proofs.live_step.are_named.Given as goal

-- the reader is one of the writer's copy
abbrev pub invariant-keys : goal.invariant-keys
invariant-keys g l = l.copy.name ≡ l.writer.name
