use Rattle.exh_copy.specs.Additions.{AreOf}
use Rattle.exh_values.proofs.copies.play_two.Given as goal

-- the readers of each copy are of their writer's
abbrev pub invariant-rows : goal.invariant-rows
invariant-rows g l = record {
  own : AreOf l.writer.name l.readers.items;
  others : AreOf l.other_writer.name l.other_readers.items;
}
