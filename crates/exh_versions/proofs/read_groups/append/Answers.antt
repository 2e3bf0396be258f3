use Rattle.std.proofs.Common.{◌≡◌, ℕ, ◌+◌, ◌<◌, ◌∷◌, ◌++◌, [], List, length, take, get_or, sym, ap, ◌∙◌, append_assoc}
use Rattle.std.proofs.lemmas.List.{take_all, take_more}
use Rattle.exh_cells.specs.declared.cell.Cell.{Cell}
use Rattle.exh_versions.proofs.read_groups.append.Goals as goal

next_cell : (old more : List Cell) (at : ℕ) (d : Cell) {so_far next : List Cell} → at < length more → so_far ≡ old ++ take at more → next ≡ so_far ++ get_or more at d ∷ [] → next ≡ old ++ take (at + 1) more
next_cell old more at d within was pushed =
    pushed ∙ ap (λ (front : List Cell). front ++ get_or more at d ∷ []) was ∙ append_assoc old (take at more) (get_or more at d ∷ []) ∙ ap (λ (rest : List Cell). old ++ rest) (sym (take_more more at d within))

pub loop-cell-preserved : goal.loop-cell-preserved
loop-cell-preserved c = next_cell c.args.cells.now.items c.args.more.now c.loop-cell.cell-index _ c.loop-cell-test.true c.loop-cell.invariant c.in_ok-push.ensures.items

pub returns : goal.returns
returns c = c.loop-cell.invariant ∙ ap (λ (rest : List Cell). c.args.cells.now.items ++ rest) (take_all c.loop-cell.cell-index c.args.more.now c.loop-cell-test.false)
