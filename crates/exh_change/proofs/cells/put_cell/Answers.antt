use Rattle.std.proofs.Common.{◌≡◌, ℕ, ◌/◌, ◌%◌, ◌*◌, ◌<◌, List, length, slice_set, sym, ap, ◌∙◌, subst, arith}
use Rattle.std.specs.List.{sum}
use Rattle.exh_cells.specs.declared.cell.Cell.{Cell}
use Rattle.exh_cells.specs.declared.stamped_header.StampedHeader.{StampedHeader}
use Rattle.exh_cells.specs.PlacedFile.{IsPlacedFile, walk_block}
use Rattle.exh_cells.specs.Places.{walk_block_of}
use Rattle.exh_edits.specs.BlockEdits.{with_block, with_edits}
use Rattle.exh_edits.specs.PlacedEdits.{group_cells, with_cell}
use Rattle.exh_change.proofs.Counts.{few_pages}
use Rattle.exh_change.proofs.EditPlaces.{at_place}
use Rattle.exh_change.proofs.OfFile.{group_set}
use Rattle.exh_change.proofs.cells.put_cell.Goals as goal

pub walk_block-requires : goal.walk_block-requires
walk_block-requires g c = omega (arith, c.group_of-group.ensures, c.requires.place, few_pages c.args.draft.now.header c.requires.sound.header)

pub put_block-requires-clause-room : goal.put_block-requires-clause-room
put_block-requires-clause-room g c = omega (arith, c.requires.sound.count, few_pages c.args.draft.now.header c.requires.sound.header)

pub returns-clause-legal : goal.returns-clause-legal
returns-clause-legal g c base file knows is =
    let draft = c.args.draft.now in
    let place = c.args.place in
    let old = with_edits draft.edits.items.items base in
    let within : place < length file.pages = omega (arith, c.requires.place, ap (λ (header : StampedHeader). sum header.page_counts) is.header, is.is.valid.count) in
    let group : c.group_of-group.result ≡ place / 24 = c.group_of-group.ensures in
    let cells = c.in_ok-cells.ensures.legal base file knows is ∙ ap (λ (group : ℕ). group_cells group file.cells) group in
    let set : c.deref.result.now ≡ group_cells (place / 24) (slice_set file.cells place c.args.cell) =
    c.deref.ensures.value ∙ ap (λ (cells : List Cell). slice_set cells (place % 24) c.args.cell) cells ∙ group_set file.cells place c.args.cell in
    let block : c.walk_image.result ≡ walk_block (group_cells (place / 24) (slice_set file.cells place c.args.cell)) = c.walk_image.ensures ∙ ap walk_block set in
    let at : c.walk_block.result ≡ walk_block_of (place / 24) = c.walk_block.ensures ∙ ap walk_block_of group in
    let bytes = c.in_ok-put_block.ensures.made base is.len ∙ ap (λ (at : ℕ). with_block at c.walk_image.result old) at ∙ ap (λ (block : List ℕ). with_block (walk_block_of (place / 24)) block old) block in
    record {
      len = is.len ∙ ap (λ (n : ℕ). 4096 * n) (sym c.in_ok-put_block.ensures.first);
      header = is.header;
      is = subst (IsPlacedFile (with_cell place c.args.cell file)) (sym bytes) (c.cells_change.ensures file old place c.args.cell is.is within c.requires.valid);
    }

pub returns-clause-more : goal.returns-clause-more
returns-clause-more g c =
    at_place c.args.draft.now.edits.items.items c.put_block.new.edits.items.items c.walk_block.result (walk_block_of (c.args.place / 24)) (c.walk_block.ensures ∙ ap walk_block_of c.group_of-group.ensures) c.in_ok-put_block.ensures.more
