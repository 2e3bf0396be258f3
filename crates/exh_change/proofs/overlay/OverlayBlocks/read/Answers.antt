use Rattle.std.proofs.Common.{Result, Ok, Err, OnOk}
use Rattle.exh_direct.specs.KnownBlocks.{IsBlockAt}
use Rattle.exh_change.specs.Overlay.{shown}
use Rattle.exh_change.proofs.Found.{own_places}
use Rattle.exh_change.proofs.Shown.{kept_block, shown_block}
use Rattle.exh_change.proofs.overlay.OverlayBlocks.read.Goals as goal

on_ok_more : {T E : Type 0} (result : Result T E) (P Q : Type 0) → (P → Q) → OnOk result P → OnOk result Q
on_ok_more (Ok x) P Q more holds = more holds
on_ok_more (Err error) P Q more holds = tt

pub returns-in-Some-clause-block : goal.returns-in-Some-clause-block
returns-in-Some-clause-block g c =
    let it = c.args.self.now in
    let edits = it.edits in
    shown_block c.edited_blocks_stand.ensures.length c.edit_lists_stand.ensures.found g.K.Under.known edits.items.items edits.first edits.count c.args.place c.in-Some.found
    it.counted edits.turn edits.blocks (own_places edits.items.items edits.places.entries edits.found) c.in-Some.ensures.some

pub returns-in-None-clause-block : goal.returns-in-None-clause-block
returns-in-None-clause-block g c =
    let it = c.args.self.now in
    let edits = it.edits in
    let under = g.B.Blocks.known it.under.now in
    on_ok_more c.read.result (IsBlockAt under c.args.place c.read.new.block) (IsBlockAt (shown g.K.Under.known edits.items.items) c.args.place c.read.new.block)
    (kept_block c.edited_blocks_stand.ensures.length c.edit_lists_stand.ensures.kept g.K.Under.known under edits.items.items edits.first edits.count c.args.place c.read.new.block
    it.counted edits.turn edits.blocks c.in-None.ensures.none it.same)
    c.read.ensures.block
