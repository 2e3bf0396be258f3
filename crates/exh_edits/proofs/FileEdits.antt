-- Files of which the header, a page or a cell is another, or that have a page more, and their bytes.
use Rattle.std.proofs.Common.{◌≡◌, ◌≢◌, ℕ, zero, suc, ◌+◌, ◌-◌, ◌*◌, ◌/◌, ◌%◌, ◌<◌, ◌≤◌, max, List, [], ◌∷◌, length, take, drop, slice_set, ◌⊎◌, inl, inr, refl, sym, ap, ◌∙◌, append-nil, subst, arith}
use Rattle.std.specs.List.{AllByRecursion, flat_map, sum}
use Rattle.std.proofs.lemmas.Bool.{cases_eq, cases_lt}
use Rattle.std.proofs.lemmas.List.{drop_at, length-set, length_push}
use Rattle.exh_prefix.specs.PrefixListLemmas.{AllByRecursion-push}
use Rattle.exh_prefix.specs.Version.{second_version}
use Rattle.exh_keyer.specs.Pseudokey.{any_pseudokey}
use Rattle.exh_keyer.specs.declared.any_keyer.AnyKeyer.{AnyKeyer}
use Rattle.exh_page.specs.declared.page.Page.{Page}
use Rattle.exh_codec.specs.CodecLaws.{ImagesAreBlocks}
use Rattle.exh_codec.specs.PageImage.{IsPage}
use Rattle.exh_cells.specs.PageFile.{page_block}
use Rattle.exh_cells.specs.declared.cell.Cell.{Cell}
use Rattle.exh_cells.specs.declared.stamped_header.StampedHeader.{StampedHeader}
use Rattle.exh_cells.specs.BlockLaws.{WalksAreBlocks}
use Rattle.exh_cells.specs.PlacedFile.{IsPlaced, IsPlacedFile, PlacedFile, placed_bytes, stamped_block, walk_block}
use Rattle.exh_cells.specs.Places.{end_block_of, group_in, page_block_of, walk_block_of}
use Rattle.exh_cells.specs.StampedHeader.{IsStampedHeader}
use Rattle.exh_cells.specs.WalkImage.{IsCell}
use Rattle.exh_edits.specs.BlockEdits.{with_block}
use Rattle.exh_edits.specs.EditLaws.{FitsFile, more_bytes}
use Rattle.exh_edits.specs.PlacedEdits.{counted_more, group_cells, with_cell, with_header, with_more, with_page}
use Rattle.exh_edits.proofs.BlockLengths.{length-header, length-page, length-walk}
use Rattle.exh_edits.proofs.FileBlocks.{block_in, block_of, made_file, own_is, page_in, walk_in}
use Rattle.exh_edits.proofs.MadeBlocks.{IsMadeOf, made_same, made_with}
use Rattle.exh_edits.proofs.Parts.{all_drop, all_set, one_more, part_push, part_set, there_set}
use Rattle.exh_edits.proofs.Standing.{made_bytes, page_there, walk_there}

-- ---- the blocks behind the header's

-- two files have the same block at a place where they have the same cells of its group, or the same page
same_block : (pages others : List Page) (cells other_cells : List Cell) (place : ℕ)
    → (place % 25 ≡ 0 → group_cells (place / 25) cells ≡ group_cells (place / 25) other_cells) → (place % 25 ≢ 0 → take 1 (drop (place - 1 - place / 25) pages) ≡ take 1 (drop (place - 1 - place / 25) others))
    → block_in pages cells place ≡ block_in others other_cells place
same_block pages others cells other_cells place groups own = elim (cases_eq (place % 25) 0) [
  | inl is ↦ walk_in pages cells place is ∙ ap walk_block (groups is) ∙ sym (walk_in others other_cells place is)
  | inr isnt ↦ page_in pages cells place isnt ∙ ap (flat_map page_block) (own isnt) ∙ sym (page_in others other_cells place isnt)
]

-- a part without a place is before it or behind it
apart : (len from place : ℕ) → ((from ≤ place) × (place < from + len) → ⊥) → (place < from) ⊎ (from + len ≤ place)
apart len from place outside = elim (cases_lt place from) [
  | inl less ↦ inl less
  | inr past ↦ elim (cases_lt place (from + len)) [ inl inside ↦ absurd (outside (past, inside)) | inr behind ↦ inr behind ]
]

module _ (images : ImagesAreBlocks) (walks : WalksAreBlocks) (file : PlacedFile) (bytes : List ℕ) (is : IsPlacedFile file bytes) where
  abbrev count : ℕ
  count = length file.pages

  abbrev keyer : AnyKeyer
  keyer = file.header.settings.keyer

  -- bytes of the blocks of a file are its bytes
  whole_file : (other : PlacedFile) (others : List ℕ) → IsPlaced other → IsMadeOf (end_block_of (length other.pages)) (block_of other) others → IsPlacedFile other others
  whole_file other others valid made = record { valid = valid; whole = made_same (end_block_of (length other.pages)) (block_of other) (block_of other) others (placed_bytes other) made (made_file images walks other valid) (λ place within. refl) }

  -- another file of as many pages
  edited_file : (other : PlacedFile) (place : ℕ) (block : List ℕ) → IsPlaced other → length other.pages ≡ count → length block ≡ 4096 → place < end_block_of count → block_of other place ≡ block
      → ((at : ℕ) → at ≢ place → block_of other at ≡ block_of file at) → IsPlacedFile other (with_block place block bytes)
  edited_file other place block valid many len within here elsewhere =
      whole_file other (with_block place block bytes) valid
      (made_with (end_block_of count) (end_block_of (length other.pages)) (block_of file) (block_of other) bytes place block (made_bytes images walks file bytes is) len (omega (arith, within)) (omega (arith, within, many)) here
      (λ at inside differs. elsewhere at differs))

  -- ---- another header

  beside_header : (header : StampedHeader) (at : ℕ) → at ≢ 0 → block_of (with_header header file) at ≡ block_of file at
  beside_header header zero differs = absurd (differs refl)
  beside_header header (suc at) differs = refl

  module _ (header : StampedHeader) (valid : IsStampedHeader header) (counted : sum header.page_counts ≡ count) (keyed : header.settings.keyer ≡ keyer) where
    placed_header : IsPlaced (with_header header file)
    placed_header = record {
      header = valid;
      count = sym counted;
      all = is.valid.all;
      pages = subst (λ (keyer : AnyKeyer). AllByRecursion (IsPage second_version (any_pseudokey keyer)) file.pages) (sym keyed) is.valid.pages;
      cells = is.valid.cells;
    }

    pub header_changes : IsPlacedFile (with_header header file) (with_block 0 (stamped_block header) bytes)
    header_changes = edited_file (with_header header file) 0 (stamped_block header) placed_header refl (length-header header valid) (omega arith) refl (beside_header header)

  -- ---- another page

  module _ (place : ℕ) (page : Page) (within : place < count) (fits : FitsFile file page) where
    abbrev paged : PlacedFile
    paged = with_page place page file

    placed_page : IsPlaced paged
    placed_page = record {
      header = is.valid.header;
      count = length-set file.pages place page ∙ is.valid.count;
      all = is.valid.all ∙ sym (length-set file.pages place page);
      pages = all_set (IsPage second_version (any_pseudokey keyer)) file.pages place page fits is.valid.pages;
      cells = is.valid.cells;
    }

    elsewhere_page : (at : ℕ) → at ≢ page_block_of place → block_of paged at ≡ block_of file at
    elsewhere_page zero differs = refl
    elsewhere_page (suc at) differs =
        same_block paged.pages file.pages file.cells file.cells at (λ none. refl)
        (λ isnt. part_set 1 (at - 1 - at / 25) file.pages place page (apart 1 (at - 1 - at / 25) place (λ less. omega (arith, less, isnt, differs))))

    pub page_changes : IsPlacedFile paged (with_block (page_block_of place) (page_block page) bytes)
    page_changes =
        edited_file paged (page_block_of place) (page_block page) placed_page (length-set file.pages place page) (length-page images (any_pseudokey keyer) page fits) (omega (arith, within))
        (page_there paged place ∙ own_is paged.pages place page (there_set file.pages place page within)) elsewhere_page

  -- ---- another cell

  module _ (place : ℕ) (cell : Cell) (within : place < count) (valid : IsCell cell) where
    abbrev celled : PlacedFile
    celled = with_cell place cell file

    placed_cell : IsPlaced celled
    placed_cell = record {
      header = is.valid.header;
      count = is.valid.count;
      all = length-set file.cells place cell ∙ is.valid.all;
      pages = is.valid.pages;
      cells = all_set IsCell file.cells place cell valid is.valid.cells;
    }

    elsewhere_cell : (at : ℕ) → at ≢ walk_block_of (group_in place) → block_of celled at ≡ block_of file at
    elsewhere_cell zero differs = refl
    elsewhere_cell (suc at) differs =
        same_block file.pages file.pages celled.cells file.cells at
        (λ first. part_set 24 (24 * (at / 25)) file.cells place cell (apart 24 (24 * (at / 25)) place (λ less. omega (arith, less, first, differs)))) (λ isnt. refl)

    pub cell_changes : IsPlacedFile celled (with_block (walk_block_of (group_in place)) (walk_block (group_cells (group_in place) (slice_set file.cells place cell))) bytes)
    cell_changes =
        let group = group_in place in
        edited_file celled (walk_block_of group) (walk_block (group_cells group celled.cells)) placed_cell refl (length-walk walks (drop (24 * group) celled.cells) (all_drop IsCell (24 * group) celled.cells placed_cell.cells))
        (omega (arith, within)) (walk_there celled group) elsewhere_cell

  -- ---- a page more

  module _ (ward : ℕ) (page : Page) (cell : Cell) (few : ward < length file.header.page_counts) (header : IsStampedHeader (counted_more ward file.header)) (fits : FitsFile file page) (valid : IsCell cell) where
    abbrev more : PlacedFile
    more = with_more ward page cell file

    abbrev counted : PlacedFile
    counted = with_header (counted_more ward file.header) file

    placed_more : IsPlaced more
    placed_more = record {
      header = header;
      count = omega (arith, length_push file.pages page, one_more file.header.page_counts ward few, is.valid.count);
      all = omega (arith, length_push file.pages page, length_push file.cells cell, is.valid.all);
      pages = AllByRecursion-push (IsPage second_version (any_pseudokey keyer)) file.pages page is.valid.pages fits;
      cells = AllByRecursion-push IsCell file.cells cell is.valid.cells valid;
    }

    elsewhere_more : (at : ℕ) → at < end_block_of count → at ≢ walk_block_of (group_in count) → block_of more at ≡ block_of counted at
    elsewhere_more zero inside differs = refl
    elsewhere_more (suc at) inside differs =
        same_block more.pages file.pages more.cells file.cells at
        (λ first. part_push 24 (24 * (at / 25)) file.cells (cell ∷ []) (omega (arith, first, inside, differs, is.valid.all)))
        (λ isnt. part_push 1 (at - 1 - at / 25) file.pages (page ∷ []) (omega (arith, isnt, inside)))

    pub page_added : IsPlacedFile more (more_bytes ward page cell file bytes)
    page_added =
        let group = group_in count in
        let place = page_block_of count in
        let walk_at = walk_block_of group in
        let between = max (end_block_of count) (walk_at + 1) in
        let walk = walk_block (group_cells group more.cells) in
        let heads = stamped_block (counted_more ward file.header) in
        let first = made_with (end_block_of count) (end_block_of count) (block_of file) (block_of counted) bytes 0 heads (made_bytes images walks file bytes is) (length-header (counted_more ward file.header) header)
        (omega arith) (omega arith) refl (λ at inside. beside_header (counted_more ward file.header) at) in
        let second = made_with (end_block_of count) between (block_of counted) (block_of more) (with_block 0 heads bytes) walk_at walk first
        (length-walk walks (drop (24 * group) more.cells) (all_drop IsCell (24 * group) more.cells placed_more.cells)) (omega arith) refl (walk_there more group) elsewhere_more in
        let third = made_with between (end_block_of (length more.pages)) (block_of more) (block_of more) (with_block walk_at walk (with_block 0 heads bytes)) place (page_block page) second
        (length-page images (any_pseudokey keyer) page fits) (omega arith) (omega (arith, length_push file.pages page))
        (page_there more count ∙ ap (λ (pages : List Page). flat_map page_block (take 1 pages)) (drop_at file.pages (page ∷ []) count refl) ∙ append-nil (page_block page)) (λ at inside differs. refl) in
        whole_file more (more_bytes ward page cell file bytes) placed_more third
