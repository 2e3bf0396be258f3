use Rattle.std.proofs.Common.{◌≡◌, ◌%◌, ◌<◌, length, slice_get, Some, refl, sym, ap, ◌∙◌, arith}
use Rattle.std.proofs.lemmas.Option.{same_Some, slice_get-get_or, slice_get_read, slice_get_within}
use Rattle.exh_cells.specs.declared.cell.Slot.{Slot}
use Rattle.exh_cells.specs.WalkImage.{IsCell}
use Rattle.exh_edits.specs.declared.walk_block.WalkBlock.{WalkBlock}
use Rattle.exh_edits.specs.WalkBlocks.{IsBlockOf}
use Rattle.exh_edits.proofs.BlockLemmas.{all_at, taken_are}
use Rattle.exh_edits.proofs.search.slot_at.Goals as goal

pub returns-clause-tells : goal.returns-clause-tells
returns-clause-tells g c =
    let header = c.args.header.now in
    let known = g.B.Blocks.known c.args.blocks.now in
    let leaf = c.args.leaf in
    let none : Slot = record { number = 0; page = 0 } in
    let blocks = c.block_at.new.read.items in
    let index = c.in_ok-index.index in
    let block = c.index.result.now in
    let cell = c.index-cell.result.now in
    let is_there = c.in_ok-index.ensures.there in
    let are = taken_are known header _ _ _ c.args.read.now.items blocks c.requires.read c.in_ok-index.ensures.taken in
    let read : slice_get blocks index ≡ Some block = slice_get_read blocks (length blocks) index block refl (slice_get_within blocks index is_there.0 is_there.1) c.index.ensures in
    let one : is_there.0 ≡ block = same_Some is_there.0 block (sym is_there.1 ∙ read) in
    let of_group = ap (λ (block : WalkBlock). block.group) (sym one) ∙ is_there.2 ∙ c.group_of-group.ensures in
    let is = all_at (IsBlockOf known header) blocks index block are.each read in
    let within : leaf.page % 24 < length block.cells.items = omega (arith, is.count, of_group, c.requires.there) in
    let there : slice_get block.cells.items (leaf.page % 24) ≡ Some cell = slice_get_read block.cells.items (length block.cells.items) (leaf.page % 24) cell refl within c.index-cell.ensures in
    let valid = all_at IsCell block.cells.items (leaf.page % 24) cell is.is.2.valid there in (
      cell,
      record { index = index; block = block; read = read; of_group = of_group; there = there },
      ap (slice_get cell.slots) (sym (c.from.ensures ∙ c.len.ensures.length)) ∙ slice_get-get_or cell.slots c.from.result none (omega (arith, c.from.ensures, c.len.ensures.length, valid.read.count, c.requires.short)),
    )
