use Rattle.std.proofs.Common.{◌≡◌, ℕ, ◌/◌, ◌%◌, List, length, slice_get, refl, sym, ap, ◌∙◌, arith}
use Rattle.std.proofs.lemmas.Option.{slice_get_read}
use Rattle.exh_cells.specs.declared.cell.Cell.{Cell}
use Rattle.exh_edits.specs.PlacedEdits.{group_cells}
use Rattle.exh_change.proofs.OfFile.{slice_group}
use Rattle.exh_change.proofs.cells.cell_at.Goals as goal

pub returns-clause-legal : goal.returns-clause-legal
returns-clause-legal g c base file knows is =
    let cells = c.in_ok-cells.cells in
    let same : cells.items ≡ group_cells (c.args.place / 24) file.cells = c.in_ok-cells.ensures.legal base file knows is ∙ ap (λ (group : ℕ). group_cells group file.cells) c.group_of.ensures in
    sym (slice_group file.cells c.args.place) ∙ ap (λ (cells : List Cell). slice_get cells (c.args.place % 24)) (sym same)
    ∙ slice_get_read cells.items (length cells.items) (c.args.place % 24) c.index.result.now refl (omega (arith, c.in_ok-cells.ensures.count, cells.ok.0, c.group_of.ensures, c.requires.place)) c.index.ensures
