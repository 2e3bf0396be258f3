use Rattle.std.proofs.Common.{◌≡◌, ℕ, ◌*◌, ◌<◌, List, length, sym, ap, ◌∙◌, subst, arith}
use Rattle.std.specs.List.{sum}
use Rattle.exh_cells.specs.declared.stamped_header.StampedHeader.{StampedHeader}
use Rattle.exh_cells.specs.PlacedFile.{PlacedFile}
use Rattle.exh_edits.specs.EditLaws.{StandsAt, WalkBlocksStand}
use Rattle.exh_edits.specs.BlockEdits.{with_edits}
use Rattle.exh_edits.specs.PlacedEdits.{group_cells}
use Rattle.exh_cells.specs.Places.{walk_block_of}
use Rattle.exh_cells.specs.WalkImage.{IsWalkImage}
use Rattle.exh_change.specs.declared.draft.Draft.{Draft}
use Rattle.exh_change.specs.Drafts.{IsOf}
use Rattle.exh_change.proofs.OfFile.{length-group, memory_fault, walk_read}
use Rattle.exh_change.proofs.cells.cells_of.Goals as goal

pages_are : (base : List ℕ) (draft : Draft) (file : PlacedFile) → IsOf base draft file → sum draft.header.page_counts ≡ length file.pages
pages_are base draft file is = ap (λ (header : StampedHeader). sum header.page_counts) is.header ∙ sym is.is.valid.count

image_is : WalkBlocksStand → (base : List ℕ) (draft : Draft) (file : PlacedFile) (group at : ℕ) (block : List ℕ) → IsOf base draft file → 24 * group < length file.pages → at ≡ walk_block_of group → StandsAt (with_edits draft.edits.items.items base) at block
    → IsWalkImage (group_cells group file.cells) block
image_is stand base draft file group at block is some at_is stands =
    let own = stand file (with_edits draft.edits.items.items base) group is.is some in
    let here = subst (λ (at : ℕ). StandsAt (with_edits draft.edits.items.items base) at block) at_is stands in
    walk_read file.cells group block is.is.valid.cells (sym here.is ∙ own.is)

pub returns-in-Ok-clause-legal : goal.returns-in-Ok-clause-legal
returns-in-Ok-clause-legal g c base file knows is =
    let draft = c.args.draft.now in
    let pages = pages_are base draft file is in
    let some : 24 * c.args.group < length file.pages = omega (arith, c.min-count.ensures, c.if-count-eq0.false, c.page_count.ensures.count, pages) in
    let image = image_is c.blocks_stand.ensures.walk_blocks base draft file c.args.group c.walk_block-at.result c.read_edited.new.block is some c.walk_block-at.ensures (c.in_ok-read_edited.ensures.block base knows is.len) in
    c.in-Ok.ensures.every (group_cells c.args.group file.cells) image (omega (arith, length-group file.cells c.args.group, is.is.valid.all, c.min-count.ensures, c.page_count.ensures.count, pages))

pub returns-in-Err-clause-legal : goal.returns-in-Err-clause-legal
returns-in-Err-clause-legal g c base file knows is =
    let draft = c.args.draft.now in
    let pages = pages_are base draft file is in
    let some : 24 * c.args.group < length file.pages = omega (arith, c.min-count.ensures, c.if-count-eq0.false, c.page_count.ensures.count, pages) in
    let image = image_is c.blocks_stand.ensures.walk_blocks base draft file c.args.group c.walk_block-at.result c.read_edited.new.block is some c.walk_block-at.ensures (c.in_ok-read_edited.ensures.block base knows is.len) in
    memory_fault c.walk_block-at.result c.in-Err.fault c.at_place.result c.at_place.ensures
    (c.in-Err.ensures.every (group_cells c.args.group file.cells) image (omega (arith, length-group file.cells c.args.group, is.is.valid.all, c.min-count.ensures, c.page_count.ensures.count, pages)))
