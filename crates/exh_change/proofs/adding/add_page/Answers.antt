use Rattle.std.proofs.Common.{◌≡◌, ℕ, ◌*◌, ◌/◌, List, [], ◌∷◌, ◌++◌, length, slice_index, sym, ap, ◌∙◌, subst, arith}
use Rattle.std.specs.List.{sum}
use Rattle.exh_cells.specs.declared.cell.Cell.{Cell}
use Rattle.exh_cells.specs.declared.stamped_header.StampedHeader.{StampedHeader}
use Rattle.exh_cells.specs.PlacedFile.{IsPlacedFile, stamped_block, walk_block}
use Rattle.exh_cells.specs.Places.{page_block_of, walk_block_of}
use Rattle.exh_cells.specs.StampedHeader.{IsStampedHeader}
use Rattle.exh_cells.specs.WalkImage.{IsCell}
use Rattle.exh_keyer.specs.Pseudokey.{any_pseudokey}
use Rattle.exh_prefix.specs.Version.{second_version}
use Rattle.exh_codec.specs.PageImage.{IsPage}
use Rattle.exh_format.specs.PageFile.{page_block}
use Rattle.exh_edits.specs.BlockEdits.{with_block, with_edits}
use Rattle.exh_edits.specs.PlacedEdits.{counted_more, group_cells, with_more}
use Rattle.exh_change.specs.PlacedSteps.{new_cell}
use Rattle.exh_change.specs.Changes.{EditsMore, blocks_at}
use Rattle.exh_change.proofs.OfFile.{group_push}
use Rattle.exh_change.proofs.adding.add_page.Goals as goal

pub returns-clause-legal : goal.returns-clause-legal
returns-clause-legal g c valid base file knows is =
    let draft = c.args.draft.now in
    let ward = c.args.ward in
    let page = c.args.page.now in
    let number = slice_index draft.header.page_counts ward in
    let cell : Cell = new_cell number in
    let old = with_edits draft.edits.items.items base in
    let count = length file.pages in
    let place : c.page_count-place.result ≡ count = c.page_count-place.ensures.count ∙ ap (λ (header : StampedHeader). sum header.page_counts) is.header ∙ sym is.is.valid.count in
    let header : c.counted_more-header.result ≡ counted_more ward file.header = c.counted_more-header.ensures ∙ ap (counted_more ward) is.header in
    let group : c.group_of-group.result ≡ count / 24 = c.group_of-group.ensures ∙ ap (λ (place : ℕ). place / 24) place in
    let cells = c.in_ok-cells.ensures.legal base file knows is ∙ ap (λ (group : ℕ). group_cells group file.cells) group in
    let pushed : c.deref.result.now ≡ group_cells (count / 24) (file.cells ++ cell ∷ []) =
    c.deref.ensures.value ∙ c.in_ok-push_item.ensures.ok ∙ ap (λ (last : Cell). c.in_ok-cells.cells.items ++ last ∷ []) c.new_cell.ensures.is ∙ ap (λ (cells : List Cell). cells ++ cell ∷ []) cells ∙ group_push file.cells cell count (sym is.is.valid.all) in
    let made = c.in_ok-put_three.ensures.made base is.len in
    let bytes = made
    ∙ ap (λ (place : ℕ). with_block (page_block_of place) (page_block page) (with_block (walk_block_of (place / 24)) (walk_block c.deref.result.now) (with_block 0 (stamped_block c.counted_more-header.result) old))) place
    ∙ ap (λ (cells : List Cell). with_block (page_block_of count) (page_block page) (with_block (walk_block_of (count / 24)) (walk_block cells) (with_block 0 (stamped_block c.counted_more-header.result) old))) pushed
    ∙ ap (λ (header : StampedHeader). with_block (page_block_of count) (page_block page) (with_block (walk_block_of (count / 24)) (walk_block (group_cells (count / 24) (file.cells ++ cell ∷ []))) (with_block 0 (stamped_block header) old))) header in
    let fits = subst (λ (header : StampedHeader). IsPage second_version (any_pseudokey header.settings.keyer) page) is.header c.in_ok-put_three.ensures.valid in
    let counted = subst (λ (header : StampedHeader). IsStampedHeader (counted_more ward header)) is.header valid in
    let cell_valid = subst IsCell c.new_cell.ensures.is c.new_cell.ensures.valid in
    record {
      len = is.len ∙ ap (λ (n : ℕ). 4096 * n) (sym c.in_ok-put_three.ensures.first);
      header = header;
      is = subst (IsPlacedFile (with_more ward page cell file)) (sym bytes) (c.pages_are_added.ensures file old ward page cell is.is (omega (arith, c.requires.ward, is.is.valid.header.plain.counts)) counted fits cell_valid);
    }

pub returns-clause-more : goal.returns-clause-more
returns-clause-more g c = subst (λ (place : ℕ). EditsMore (0 ∷ blocks_at place) c.args.draft.now c.put_three.new.draft) c.page_count-place.ensures.count c.in_ok-put_three.ensures.more
