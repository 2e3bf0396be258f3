use Rattle.exh_cells.proofs.fit.cell_fits.Goals as goal

pub returns-then-cell-number : goal.returns-then-cell-number
returns-then-cell-number c = (λ yes. (c.if-cell-number.true, c.slots_fit.ensures.0 yes), λ both. c.slots_fit.ensures.1 both.1)
