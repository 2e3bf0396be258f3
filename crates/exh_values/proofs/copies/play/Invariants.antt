use Rattle.exh_copy.specs.Additions.{AreOf}
use Rattle.exh_values.proofs.copies.play.Given as goal

-- the readers are of the writer's copy
abbrev pub invariant-steps : goal.invariant-steps
invariant-steps g l = AreOf l.writer.name l.readers.items
