use Rattle.std.proofs.Common.{sym, subst, arith}
use Rattle.exh_cells.specs.declared.stamped_header.StampedHeader.{StampedHeader}
use Rattle.exh_keyer.specs.Pseudokey.{any_pseudokey}
use Rattle.exh_prefix.specs.Version.{second_version}
use Rattle.exh_codec.specs.PageImage.{IsImage}
use Rattle.exh_edits.specs.BlockEdits.{with_edits}
use Rattle.exh_change.proofs.Counts.{few_pages}
use Rattle.exh_change.proofs.OfFile.{memory_fault, page_read}
use Rattle.exh_change.proofs.pages.page_at.Goals as goal

pub page_block-at-requires : goal.page_block-at-requires
page_block-at-requires g c = omega (arith, c.requires.place, few_pages c.args.draft.now.header c.requires.sound.header)

pub returns-in-Ok-clause-legal : goal.returns-in-Ok-clause-legal
returns-in-Ok-clause-legal g c base file knows is page there =
    let draft = c.args.draft.now in
    let image = page_read file (with_edits draft.edits.items.items base) c.read_edited.new.block c.args.place c.page_block-at.result page c.blocks_stand.ensures.pages is.is there c.page_block-at.ensures (c.in_ok-read_edited.ensures.block base knows is.len) in
    c.in-Ok.ensures.only page (subst (λ (header : StampedHeader). IsImage second_version (any_pseudokey header.settings.keyer) page c.read_edited.new.block) (sym is.header) image)

pub returns-in-Err-clause-legal : goal.returns-in-Err-clause-legal
returns-in-Err-clause-legal g c base file knows is page there =
    let draft = c.args.draft.now in
    let image = page_read file (with_edits draft.edits.items.items base) c.read_edited.new.block c.args.place c.page_block-at.result page c.blocks_stand.ensures.pages is.is there c.page_block-at.ensures (c.in_ok-read_edited.ensures.block base knows is.len) in
    memory_fault c.page_block-at.result c.in-Err.fault c.at_place.result c.at_place.ensures
    (c.in-Err.ensures.only page (subst (λ (header : StampedHeader). IsImage second_version (any_pseudokey header.settings.keyer) page c.read_edited.new.block) (sym is.header) image))
