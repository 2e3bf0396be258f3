use Rattle.std.proofs.Common.{arith}
use Rattle.exh_cells.specs.Places.{page_block_of}
use Rattle.exh_change.proofs.Counts.{few_pages}
use Rattle.exh_change.proofs.EditPlaces.{at_place}
use Rattle.exh_change.proofs.OfFile.{on_ok}
use Rattle.exh_change.proofs.pages.put_page.Goals as goal

pub page_block-requires : goal.page_block-requires
page_block-requires c = omega (arith, c.requires.place, few_pages c.args.draft.now.header c.requires.sound.header)

pub put_block-requires-clause-room : goal.put_block-requires-clause-room
put_block-requires-clause-room c = omega (arith, c.requires.sound.count, few_pages c.args.draft.now.header c.requires.sound.header)

pub returns-clause-more : goal.returns-clause-more
returns-clause-more c =
    on_ok c.put_block.result _ _ (at_place c.args.draft.now.edits.items.items c.put_block.new.edits.items.items c.page_block.result (page_block_of c.args.place) c.page_block.ensures) c.put_block.ensures.more
