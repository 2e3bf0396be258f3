-- Which block of a file stands where.
use Rattle.std.proofs.Common.{◌≡◌, ℕ, suc, ◌+◌, ◌-◌, ◌*◌, ◌/◌, ◌%◌, ◌<◌, List, length, slice_get, Some, refl, sym, ap, ◌∙◌, subst, arith}
use Rattle.std.proofs.lemmas.Option.{slice_get_within}
use Rattle.exh_page.specs.declared.page.Page.{Page}
use Rattle.exh_codec.specs.CodecLaws.{ImagesAreBlocks}
use Rattle.exh_cells.specs.PageFile.{page_block}
use Rattle.exh_cells.specs.BlockLaws.{WalksAreBlocks}
use Rattle.exh_cells.specs.PlacedFile.{IsPlacedFile, PlacedFile, stamped_block, walk_block}
use Rattle.exh_cells.specs.Places.{end_block_of, page_block_of, walk_block_of}
use Rattle.exh_edits.specs.EditLaws.{StandsAt}
use Rattle.exh_edits.specs.PlacedEdits.{group_cells}
use Rattle.exh_edits.proofs.FileBlocks.{block_of, made_file, own_block, own_is, page_in, walk_in}
use Rattle.exh_edits.proofs.MadeBlocks.{IsMadeOf, made_stands}

pub page_there : (file : PlacedFile) (place : ℕ) → block_of file (page_block_of place) ≡ own_block file.pages place
page_there file place =
    let at = 1 + place + place / 24 in
    let is : page_block_of place ≡ suc at = omega arith in
    let own : at - 1 - at / 25 ≡ place = omega arith in
    ap (block_of file) is ∙ page_in file.pages file.cells at (λ (none : at % 25 ≡ 0). omega (arith, none)) ∙ ap (own_block file.pages) own

pub walk_there : (file : PlacedFile) (group : ℕ) → block_of file (walk_block_of group) ≡ walk_block (group_cells group file.cells)
walk_there file group =
    let is : walk_block_of group ≡ suc (25 * group) = omega arith in
    let own : 25 * group / 25 ≡ group = omega arith in
    ap (block_of file) is ∙ walk_in file.pages file.cells (25 * group) (omega arith) ∙ ap (λ (group : ℕ). walk_block (group_cells group file.cells)) own

module _ (images : ImagesAreBlocks) (walks : WalksAreBlocks) (file : PlacedFile) (bytes : List ℕ) where
  pub made_bytes : IsPlacedFile file bytes → IsMadeOf (end_block_of (length file.pages)) (block_of file) bytes
  made_bytes is = subst (IsMadeOf (end_block_of (length file.pages)) (block_of file)) (sym is.whole) (made_file images walks file is.valid)

  pub header_stands : IsPlacedFile file bytes → StandsAt bytes 0 (stamped_block file.header)
  header_stands is = made_stands (end_block_of (length file.pages)) (block_of file) bytes (made_bytes is) 0 (stamped_block file.header) (omega arith) refl

  pub page_stands : (place : ℕ) (page : Page) → IsPlacedFile file bytes → slice_get file.pages place ≡ Some page → StandsAt bytes (page_block_of place) (page_block page)
  page_stands place page is there =
      let within = slice_get_within file.pages place page there in
      made_stands (end_block_of (length file.pages)) (block_of file) bytes (made_bytes is) (page_block_of place) (page_block page) (omega (arith, within)) (page_there file place ∙ own_is file.pages place page there)

  pub walk_stands : (group : ℕ) → IsPlacedFile file bytes → 24 * group < length file.pages → StandsAt bytes (walk_block_of group) (walk_block (group_cells group file.cells))
  walk_stands group is some = made_stands (end_block_of (length file.pages)) (block_of file) bytes (made_bytes is) (walk_block_of group) (walk_block (group_cells group file.cells)) (omega (arith, some)) (walk_there file group)

  pub blocks_counted : IsPlacedFile file bytes → length bytes ≡ 4096 * end_block_of (length file.pages)
  blocks_counted is = (made_bytes is).len
