use Rattle.std.proofs.Common.{◌≡◌, ℕ, ◌*◌, ◌/◌, List, length, Some, Option, sym, ap, ◌∙◌, subst, arith}
use Rattle.std.specs.List.{sum}
use Rattle.exh_cells.specs.declared.stamped_header.StampedHeader.{StampedHeader}
use Rattle.exh_cells.specs.PlacedFile.{IsPlacedFile, PlacedFile}
use Rattle.exh_cells.specs.Places.{end_block_of}
use Rattle.exh_direct.specs.KnownBlocks.{IsCount}
use Rattle.exh_edits.specs.declared.block_edit.BlockEdit.{BlockEdit}
use Rattle.exh_edits.specs.BlockEdits.{with_edits}
use Rattle.exh_edits.specs.EditLaws.{BlocksAreCounted}
use Rattle.exh_change.proofs.OfFile.{cut_off, header_read, other_fault}
use Rattle.exh_change.proofs.reading.read_draft.Goals as goal

-- the file ends where its header tells
ends : BlocksAreCounted → (file : PlacedFile) (base : List ℕ) (header : StampedHeader) (pages end : ℕ) → IsPlacedFile file base → header ≡ file.header → pages ≡ sum header.page_counts → end ≡ end_block_of pages → length base ≡ 4096 * end
ends counted file base header pages end is same pages_is end_is =
    let pages_same : pages ≡ length file.pages = pages_is ∙ ap (λ (header : StampedHeader). sum header.page_counts) same ∙ sym is.valid.count in
    counted file base is ∙ ap (λ (n : ℕ). 4096 * end_block_of n) (sym pages_same) ∙ ap (λ (n : ℕ). 4096 * n) (sym end_is)

count_is : (known : Option (List ℕ)) (base : List ℕ) (count : ℕ) → known ≡ Some base → IsCount known count → count ≡ length base / 4096
count_is known base count knows is = subst (λ (known : Option (List ℕ)). IsCount known count) knows is

pub returns-in_err-read_block-clause-legal : goal.returns-in_err-read_block-clause-legal
returns-in_err-read_block-clause-legal g c base file knows is =
    other_fault c.from_residual.result c.in_err-read_block.field-0.0 _ c.from_residual.ensures.1
    (cut_off (g.B.Blocks.known c.args.blocks.now) base 0 c.in_err-read_block.field-0.0 knows (c.blocks_stand.ensures.headers file base is).whole c.in_err-read_block.ensures.err)

pub returns-in_err-header-clause-legal : goal.returns-in_err-header-clause-legal
returns-in_err-header-clause-legal g c base file knows is =
    let image = header_read c.blocks_stand.ensures.headers (g.B.Blocks.known c.args.blocks.now) file base c.read_block.new.block knows is c.in_ok-read_block.ensures.block in
    let no = c.in_err-header.ensures.every file.header image in
    absurd cc

pub returns-then-count-from-clause-legal : goal.returns-then-count-from-clause-legal
returns-then-count-from-clause-legal g c base file knows is =
    let image = header_read c.blocks_stand.ensures.headers (g.B.Blocks.known c.args.blocks.now) file base c.read_block.new.block knows is c.in_ok-read_block.ensures.block in
    let same : c.in_ok-header.header ≡ file.header = (let both = c.in_ok-header.ensures.every file.header image in cc) in
    let len = ends c.blocks_stand.ensures.count file base c.in_ok-header.header c.page_count.result c.end_block-end.result is same c.page_count.ensures.count c.end_block-end.ensures in
    omega (arith, count_is (g.B.Blocks.known c.args.blocks.now) base c.count-count.result knows c.count-count.ensures.bytes, len, c.from.ensures, c.if-count-from.true)

pub returns-then-count-from-2-clause-legal : goal.returns-then-count-from-2-clause-legal
returns-then-count-from-2-clause-legal g c base file knows is =
    let image = header_read c.blocks_stand.ensures.headers (g.B.Blocks.known c.args.blocks.now) file base c.read_block.new.block knows is c.in_ok-read_block.ensures.block in
    let same : c.in_ok-header.header ≡ file.header = (let both = c.in_ok-header.ensures.every file.header image in cc) in
    let len = ends c.blocks_stand.ensures.count file base c.in_ok-header.header c.page_count.result c.end_block-end.result is same c.page_count.ensures.count c.end_block-end.ensures in
    omega (arith, count_is (g.B.Blocks.known c.args.blocks.now) base c.count-count.result knows c.count-count.ensures.bytes, len, c.from-2.ensures, c.if-count-from-2.true)

pub returns-clause-legal : goal.returns-clause-legal
returns-clause-legal g c base file knows is =
    let image = header_read c.blocks_stand.ensures.headers (g.B.Blocks.known c.args.blocks.now) file base c.read_block.new.block knows is c.in_ok-read_block.ensures.block in
    let same : c.in_ok-header.header ≡ file.header = (let both = c.in_ok-header.ensures.every file.header image in cc) in
    let len = ends c.blocks_stand.ensures.count file base c.in_ok-header.header c.page_count.result c.end_block-end.result is same c.page_count.ensures.count c.end_block-end.ensures in
    record {
      len = len ∙ ap (λ (n : ℕ). 4096 * n) (sym c.no_edits.ensures.first);
      header = same;
      is = subst (λ (items : List BlockEdit). IsPlacedFile file (with_edits items base)) (sym c.no_edits.ensures.none) is;
    }
