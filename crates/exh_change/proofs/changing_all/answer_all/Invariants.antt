use Rattle.std.proofs.Common.{◌≡◌, ℕ, List, Some, take}
use Rattle.exh_table.specs.Table.{TableMap}
use Rattle.exh_format.specs.Reading.{AreBytes}
use Rattle.exh_cells.specs.LegalPlaced.{IsLegalPlacedFile}
use Rattle.exh_cells.specs.PlacedFile.{PlacedFile}
use Rattle.exh_change.specs.Batch.{map_then_all, replies_in}
use Rattle.exh_change.specs.Overlay.{shown}
use Rattle.exh_change.specs.Steps.{IsReached}
use Rattle.exh_change.proofs.changing_all.answer_all.Given as goal

abbrev pub invariant-loop-call : goal.invariant-loop-call
invariant-loop-call g l = (file : PlacedFile) (tables : List TableMap) (bytes : List ℕ) → shown g.K.Under.known l.fn.overlay.edits.items.items ≡ Some bytes → AreBytes bytes → IsLegalPlacedFile file tables bytes
    → IsReached file (map_then_all file (take l.call-index l.calls)) (shown g.K.Under.known l.overlay.edits.items.items) × (l.replies.items ≡ replies_in file (take l.call-index l.calls))
