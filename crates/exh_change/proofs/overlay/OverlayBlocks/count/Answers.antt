use Rattle.exh_change.proofs.Shown.{shown_count}
use Rattle.exh_change.proofs.overlay.OverlayBlocks.count.Goals as goal

pub returns-clause-bytes : goal.returns-clause-bytes
returns-clause-bytes g c =
    let it = c.args.self.now in
    let edits = it.edits in
    shown_count c.edited_blocks_stand.ensures.length g.K.Under.known edits.items.items edits.first edits.count it.counted edits.turn edits.blocks
