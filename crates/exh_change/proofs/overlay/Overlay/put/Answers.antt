use Rattle.std.proofs.Common.{◌≡◌, ◌≤◌}
use Rattle.std.specs.Option.{option_map}
use Rattle.exh_edits.specs.BlockEdits.{with_block}
use Rattle.exh_format.specs.Reading.{IsBlock}
use Rattle.exh_change.specs.Index.{IsPut}
use Rattle.exh_change.specs.Overlay.{shown}
use Rattle.exh_change.proofs.Found.{own_places}
use Rattle.exh_change.proofs.Made.{on_ok_three}
use Rattle.exh_change.proofs.Shown.{shown_put}
use Rattle.exh_change.proofs.overlay.Overlay.put.Goals as goal

pub returns-clause-made : goal.returns-clause-made
returns-clause-made g c =
    let it = c.args.self.now in
    let old = it.edits in
    let new = c.put.new.self in
    let edit = c.args.edit.now in
    on_ok_three c.put.result (IsPut old.items.items edit new.items.items) (edit.place ≤ old.count) (IsBlock edit.block)
    (shown g.K.Under.known new.items.items ≡ option_map (with_block edit.place edit.block) (shown g.K.Under.known old.items.items))
    (λ put within block. shown_put c.edited_blocks_stand.ensures.length c.edit_lists_stand.ensures.pushed c.edit_lists_stand.ensures.put old.items.items new.items.items old.first old.count edit
    old.turn old.blocks (own_places old.items.items old.places.entries old.found) within block.0 g.K.Under.known it.counted put)
    c.put.ensures.put c.put.ensures.within c.put.ensures.block
