use Rattle.std.proofs.Common.{◌≡◌, ℕ, take, drop}
use Rattle.std.specs.List.{AllByRecursion}
use Rattle.std.specs.Option.{option_map}
use Rattle.exh_edits.specs.BlockEdits.{with_edits}
use Rattle.exh_edits.specs.EditsInTurn.{AreInTurn}
use Rattle.exh_format.specs.Reading.{IsBlock}
use Rattle.exh_change.specs.Overlay.{shown}
use Rattle.exh_change.proofs.overlay.Overlay.put_all.Given as goal

abbrev pub invariant-loop-edit : goal.invariant-loop-edit
invariant-loop-edit g l = record {
  made : shown g.K.Under.known l.self.edits.items.items ≡ option_map (with_edits (take l.edit-index l.edits)) (shown g.K.Under.known l.fn.self.edits.items.items);
  turn : (count : ℕ) → AreInTurn l.fn.self.edits.count l.edits count → AreInTurn l.self.edits.count (drop l.edit-index l.edits) count;
  blocks : AllByRecursion (λ edit. IsBlock edit.block) (take l.edit-index l.edits);
}
