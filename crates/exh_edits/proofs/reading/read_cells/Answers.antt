use Rattle.std.proofs.Common.{refl, sym, subst}
use Rattle.exh_format.specs.declared.file_fault.FileFault.TheVariants.{Block}
use Rattle.exh_direct.specs.KnownBlocks.{BlockFails}
use Rattle.exh_direct.specs.BlockFaultLemmas.{block_fails, image_fails}
use Rattle.exh_edits.specs.WalkBlocks.{WalkFails}
use Rattle.exh_edits.proofs.reading.read_cells.Goals as goal

pub returns-in-Err-clause-err : goal.returns-in-Err-clause-err
returns-in-Err-clause-err g c =
    let place = c.args.place in
    let Fails = WalkFails c.args.cells place in
    let fault = c.in-Err.fault in
    subst (BlockFails Fails _ place) (sym c.at_place.ensures)
    (image_fails Fails _ place fault (λ other. block_fails Fails _ place c.read_block.new.block (Block place fault) c.in_ok-read_block.ensures.block (fault, c.in-Err.ensures.fault other, refl)))
