use Rattle.std.proofs.Common.{◌≡◌, ◌≢◌, ℕ, ◌<◌, Some}
use Rattle.std.specs.List.{slice_get}
use Rattle.exh_cells.specs.declared.cell.Slot.{Slot}
use Rattle.exh_cells.specs.Fit.{FitsSlot}
use Rattle.exh_cells.proofs.fit.slots_fit.Given as goal

abbrev pub invariant-loop-len : goal.invariant-loop-len
invariant-loop-len l = (len : ℕ) (slot : Slot) → len < l.len → slice_get l.slots len ≡ Some slot → slot.number ≢ 0 → FitsSlot l.lows l.low len slot.page
