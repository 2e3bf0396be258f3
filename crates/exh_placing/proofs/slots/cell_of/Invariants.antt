use Rattle.std.proofs.Common.{◌≡◌, ◌<◌, ℕ, Some, length}
use Rattle.std.specs.List.{slice_get}
use Rattle.exh_cells.specs.declared.cell.Slot.{Slot}
use Rattle.exh_placing.specs.Making.{IsSlotFor}
use Rattle.exh_placing.proofs.slots.cell_of.Given as goal

abbrev pub invariant-loop-len : goal.invariant-loop-len
invariant-loop-len l = record {
  count : length l.slots ≡ 20;
  made : (len : ℕ) (slot : Slot) → len < l.len → slice_get l.slots len ≡ Some slot → IsSlotFor l.places.entries l.table l.low len slot;
}
