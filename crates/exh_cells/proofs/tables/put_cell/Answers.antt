use Rattle.std.proofs.Common.{◌≡◌, ◌++◌, ℕ, length, subst, arith}
use Rattle.exh_format.specs.Table.{IsTableOf}
use Rattle.exh_cells.specs.Told.{told_by_slots}
use Rattle.exh_cells.proofs.TellSteps.{slot_more}
use Rattle.exh_cells.proofs.tables.put_cell.Goals as goal

pub loop-len-preserved : goal.loop-len-preserved
loop-len-preserved c = λ told is.
    let before = told ++ told_by_slots c.args.cells.now c.args.low c.args.cell.now.slots c.loop-len.len in
    slot_more told c.args.cells.now c.args.low c.args.cell.now.slots c.loop-len.len _ c.entry_of.result c.put_entry.new.table (omega arith) c.entry_of.ensures
    (c.in_ok-put_entry.ensures before (c.loop-len.invariant told is))

pub returns : goal.returns
returns c = λ told is.
    let end : c.loop-len.len ≡ length c.args.cell.now.slots = omega arith in
    subst (λ (count : ℕ). IsTableOf (told ++ told_by_slots c.args.cells.now c.args.low c.args.cell.now.slots count) c.loop-len.table) end (c.loop-len.invariant told is)
