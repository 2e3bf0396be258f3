use Rattle.std.proofs.Common.{◌≡◌, List, ℕ, ap, ◌∙◌}
use Rattle.std.specs.Option.{option_map}
use Rattle.exh_cells.specs.PlacedFile.{stamped_block}
use Rattle.exh_edits.specs.BlockEdits.{with_block}
use Rattle.exh_change.specs.Overlay.{shown}
use Rattle.exh_change.proofs.Made.{on_ok_more}
use Rattle.exh_change.proofs.overlay.Overlay.put_header.Goals as goal

pub returns-clause-made : goal.returns-clause-made
returns-clause-made g c =
    let old = shown g.K.Under.known c.args.self.now.edits.items.items in
    let new = shown g.K.Under.known c.put.new.self.edits.items.items in
    let block = c.header_image.result in
    on_ok_more c.put.result (new ≡ option_map (with_block 0 block) old) (new ≡ option_map (with_block 0 (stamped_block c.args.header.now)) old)
    (λ is. is ∙ ap (λ (block : List ℕ). option_map (with_block 0 block) old) c.header_image.ensures)
    c.put.ensures.made
