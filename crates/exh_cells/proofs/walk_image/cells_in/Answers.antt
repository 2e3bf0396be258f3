use Rattle.std.proofs.Common.{◌≡◌, ◌+◌, ◌-◌, ◌*◌, List, length, take, drop, ap, sym, ◌∙◌, subst, arith}
use Rattle.std.proofs.lemmas.List.{take_all, length-drop}
use Rattle.exh_cells.specs.declared.cell.Cell.{Cell}
use Rattle.exh_cells.specs.WalkImage.{AreCells}
use Rattle.exh_cells.proofs.WalkBytes.{next_cell}
use Rattle.exh_cells.proofs.walk_image.cells_in.Goals as goal

pub loop-number-preserved : goal.loop-number-preserved
loop-number-preserved c =
    let bytes = c.args.bytes.now in
    let number = c.loop-number.number in
    let start = 164 * number in
    let chunk = rw c.unwrap-image.ensures at c.first_chunk.ensures.cases in
    let whole : take (length bytes - start) (drop start bytes) ≡ drop start bytes = take_all (length bytes - start) (drop start bytes) (omega (arith, length-drop start bytes)) in
    let front : c.unwrap-image.result.now ≡ take 164 (drop start bytes) = chunk.same ∙ ap (take 164) whole in
    subst (λ (cells : List Cell). AreCells (number + 1) bytes cells (drop (164 * (number + 1)) bytes)) (sym c.in_ok-push.ensures.items)
    (next_cell number bytes c.loop-number.cells.items c.from_bytes.result c.loop-number.invariant c.from_bytes.ensures.read (c.from_bytes.ensures.bytes ∙ front))
