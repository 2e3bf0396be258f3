use Rattle.std.proofs.Common.{◌/◌, [], ◌∷◌, ap, ◌∙◌, arith}
use Rattle.exh_cells.specs.Places.{page_block_of, walk_block_of}
use Rattle.exh_edits.specs.EditsInTurn.{AreMoreAt}
use Rattle.exh_change.proofs.Counts.{few_pages}
use Rattle.exh_change.proofs.EditPlaces.{at_place, three_more}
use Rattle.exh_change.proofs.OfFile.{on_ok}
use Rattle.exh_change.proofs.adding.put_three.Goals as goal

pub put_block-requires-clause-room : goal.put_block-requires-clause-room
put_block-requires-clause-room c = omega (arith, c.requires.sound.count, few_pages c.args.draft.now.header c.requires.sound.header)

pub walk_block-requires : goal.walk_block-requires
walk_block-requires c = omega (arith, c.group_of.ensures, c.requires.place, few_pages c.args.draft.now.header c.requires.sound.header)

pub put_block-requires-2-clause-room : goal.put_block-requires-2-clause-room
put_block-requires-2-clause-room c = omega (arith, c.in_ok-put_block.ensures.count, c.requires.sound.count, few_pages c.args.draft.now.header c.requires.sound.header)

pub page_block-requires : goal.page_block-requires
page_block-requires c = omega (arith, c.requires.place, few_pages c.args.draft.now.header c.requires.sound.header)

pub put_block-requires-3-clause-room : goal.put_block-requires-3-clause-room
put_block-requires-3-clause-room c = omega (arith, c.in_ok-put_block-2.ensures.count, c.in_ok-put_block.ensures.count, c.walk_block.ensures, c.group_of.ensures, c.requires.place, c.requires.sound.count, few_pages c.args.draft.now.header c.requires.sound.header)

pub returns-clause-more : goal.returns-clause-more
returns-clause-more c =
    let old = c.args.draft.now.edits.items.items in
    let first = c.put_block.new.edits.items.items in
    let second = c.put_block-2.new.edits.items.items in
    let third = c.put_block-3.new.edits.items.items in
    let place = c.args.place in
    let walk = at_place first second c.walk_block.result (walk_block_of (place / 24)) (c.walk_block.ensures ∙ ap walk_block_of c.group_of.ensures) c.in_ok-put_block-2.ensures.more in
    on_ok c.put_block-3.result _ _
    (λ (more : AreMoreAt (c.page_block.result ∷ []) second third). three_more 0 (walk_block_of (place / 24)) (page_block_of place) old first second third c.in_ok-put_block.ensures.more walk (at_place second third c.page_block.result (page_block_of place) c.page_block.ensures more))
    c.put_block-3.ensures.more
