-- The bytes of a file by the blocks at their places.
use Rattle.std.proofs.Common.{◌≡◌, ◌≢◌, ℕ, zero, suc, ◌+◌, ◌-◌, ◌*◌, ◌/◌, ◌%◌, ◌<◌, Bool, nat_eq, cond, List, [], ◌∷◌, ◌++◌, length, take, drop, slice_get, Some, refl, sym, ap, ◌∙◌, inl, inr, append-nil, subst, arith}
use Rattle.std.specs.List.{AllByRecursion, flat_map}
use Rattle.std.proofs.lemmas.Bool.{cases_eq, eq-eqb, ne_eqb}
use Rattle.std.proofs.lemmas.List.{drop-drop, length-drop, length-take}
use Rattle.std.proofs.lemmas.Option.{slice_get_within}
use Rattle.exh_page.specs.declared.page.Page.{Page}
use Rattle.exh_keyer.specs.Pseudokey.{any_pseudokey}
use Rattle.exh_codec.specs.CodecLaws.{ImagesAreBlocks}
use Rattle.exh_cells.specs.PageFile.{page_block}
use Rattle.exh_cells.specs.declared.cell.Cell.{Cell}
use Rattle.exh_cells.specs.BlockLaws.{WalksAreBlocks}
use Rattle.exh_cells.specs.PlacedFile.{IsPlaced, PlacedFile, group_bytes, placed_bytes, stamped_block, walk_block}
use Rattle.exh_cells.specs.Places.{end_block_of, groups_of}
use Rattle.exh_cells.specs.WalkImage.{IsCell}
use Rattle.exh_edits.specs.PlacedEdits.{group_cells}
use Rattle.exh_edits.proofs.BlockLengths.{length-header, length-pages, length-walk}
use Rattle.exh_edits.proofs.Parts.{all_drop, all_take}
use Rattle.exh_edits.proofs.MadeBlocks.{IsMadeOf, made_before, made_next, made_none}

-- ---- which block stands where

-- the block of the page at a place, if there is one
abbrev pub own_block : List Page → ℕ → List ℕ
own_block pages place = flat_map page_block (take 1 (drop place pages))

-- the block at a place behind the header's
abbrev pub block_in : List Page → List Cell → ℕ → List ℕ
block_in pages cells place = cond (nat_eq (place % 25) 0) (walk_block (group_cells (place / 25) cells)) (own_block pages (place - 1 - place / 25))

abbrev pub block_of : PlacedFile → ℕ → List ℕ
block_of file zero = stamped_block file.header
block_of file (suc place) = block_in file.pages file.cells place

pub walk_in : (pages : List Page) (cells : List Cell) (place : ℕ) → place % 25 ≡ 0 → block_in pages cells place ≡ walk_block (group_cells (place / 25) cells)
walk_in pages cells place is = ap (λ (test : Bool). cond test (walk_block (group_cells (place / 25) cells)) (own_block pages (place - 1 - place / 25))) (eq-eqb (place % 25) 0 is)

pub page_in : (pages : List Page) (cells : List Cell) (place : ℕ) → place % 25 ≢ 0 → block_in pages cells place ≡ own_block pages (place - 1 - place / 25)
page_in pages cells place isnt = ap (λ (test : Bool). cond test (walk_block (group_cells (place / 25) cells)) (own_block pages (place - 1 - place / 25))) (ne_eqb (place % 25) 0 isnt)

pub own_is : (pages : List Page) (place : ℕ) (page : Page) → slice_get pages place ≡ Some page → own_block pages place ≡ page_block page
own_is [] place page is = cc
own_is (other ∷ pages) zero page is = let same : other ≡ page = cc in append-nil (page_block other) ∙ ap page_block same
own_is (other ∷ pages) (suc place) page is = own_is pages place page is

-- behind a group it begins anew
next_group : (pages : List Page) (cells : List Cell) (place : ℕ) → block_in pages cells (25 + place) ≡ block_in (drop 24 pages) (drop 24 cells) place
next_group pages cells place = elim (cases_eq (place % 25) 0) [
  | inl is ↦
      let further : 24 * ((25 + place) / 25) ≡ 24 + 24 * (place / 25) = omega arith in
      let same : drop (24 * ((25 + place) / 25)) cells ≡ drop (24 * (place / 25)) (drop 24 cells) = ap (λ (n : ℕ). drop n cells) further ∙ sym (drop-drop (24 * (place / 25)) 24 cells) in
      walk_in pages cells (25 + place) (omega (arith, is)) ∙ ap (λ (cells : List Cell). walk_block (take 24 cells)) same ∙ sym (walk_in (drop 24 pages) (drop 24 cells) place is)
  | inr isnt ↦
      let own = place - 1 - place / 25 in
      let further : 25 + place - 1 - (25 + place) / 25 ≡ 24 + own = omega (arith, isnt) in
      let same : drop (25 + place - 1 - (25 + place) / 25) pages ≡ drop own (drop 24 pages) = ap (λ (n : ℕ). drop n pages) further ∙ sym (drop-drop own 24 pages) in
      page_in pages cells (25 + place) (λ is. isnt (omega (arith, is))) ∙ ap (λ (pages : List Page). flat_map page_block (take 1 pages)) same ∙ sym (page_in (drop 24 pages) (drop 24 cells) place isnt)
]

-- ---- groups

slice_take : {X : Type 0} (n : ℕ) (xs : List X) (i : ℕ) → i < n → slice_get (take n xs) i ≡ slice_get xs i
slice_take zero xs i less = absurd (omega (arith, less))
slice_take (suc n) [] i less = refl
slice_take (suc n) (y ∷ xs) zero less = refl
slice_take (suc n) (y ∷ xs) (suc i) less = slice_take n xs i (omega (arith, less))

abbrev IsLong : Page → Type 0
IsLong page = length (page_block page) ≡ 4096

-- the pages of the first group
first_page : (pages : List Page) (cells : List Cell) (place : ℕ) (page : Page) → slice_get (take 24 pages) place ≡ Some page → block_in pages cells (suc place) ≡ page_block page
first_page pages cells place page is =
    let within : place < 24 = omega (arith, slice_get_within (take 24 pages) place page is, length-take 24 pages) in
    let own : suc place - 1 - suc place / 25 ≡ place = omega (arith, within) in
    page_in pages cells (suc place) (λ (none : suc place % 25 ≡ 0). omega (arith, none, within)) ∙ ap (own_block pages) own ∙ own_is pages place page (sym (slice_take 24 pages place within) ∙ is)

made_groups : WalksAreBlocks → (groups : ℕ) (pages : List Page) (cells : List Cell) → groups_of (length pages) ≡ groups → AllByRecursion IsLong pages → AllByRecursion IsCell cells
    → IsMadeOf (length pages + groups) (block_in pages cells) (group_bytes groups pages cells)
made_groups walks zero pages cells is long valid =
    let none : 0 ≡ length pages + 0 = omega (arith, is) in
    subst (λ (count : ℕ). IsMadeOf count (block_in pages cells) []) none (made_none (block_in pages cells))
made_groups walks (suc groups) pages cells is long valid =
    let front = take 24 pages in
    let rest = drop 24 pages in
    let left : groups_of (length rest) ≡ groups = omega (arith, is, length-drop 24 pages) in
    let behind = made_groups walks groups rest (drop 24 cells) left (all_drop IsLong 24 pages long) (all_drop IsCell 24 cells valid) in
    let bytes = group_bytes groups rest (drop 24 cells) in
    let total : length pages + groups ≡ length front + (length rest + groups) = omega (arith, length-take 24 pages, length-drop 24 pages) in
    let next = λ (place : ℕ). λ (within : place < length rest + groups).
    let full : suc (length front + place) ≡ 25 + place = omega (arith, within, left, length-take 24 pages, length-drop 24 pages) in
    ap (block_in pages cells) full ∙ next_group pages cells place in
    let own = made_before page_block front (length rest + groups) (length pages + groups) (λ (place : ℕ). block_in pages cells (suc place)) (block_in rest (drop 24 cells)) bytes total (all_take IsLong 24 pages long) (first_page pages cells) next behind in
    let whole = made_next (length pages + groups) (block_in pages cells) (λ (place : ℕ). block_in pages cells (suc place)) (walk_block (take 24 cells)) (flat_map page_block front ++ bytes) (length-walk walks cells valid) refl (λ place within. refl) own in
    let count : suc (length pages + groups) ≡ length pages + suc groups = omega arith in
    subst (λ (count : ℕ). IsMadeOf count (block_in pages cells) (group_bytes (suc groups) pages cells)) count whole

-- ---- a file

pub made_file : ImagesAreBlocks → WalksAreBlocks → (file : PlacedFile) → IsPlaced file → IsMadeOf (end_block_of (length file.pages)) (block_of file) (placed_bytes file)
made_file images walks file valid =
    let pages = file.pages in
    let groups = groups_of (length pages) in
    let long = length-pages images (any_pseudokey file.header.settings.keyer) pages valid.pages in
    let behind = made_groups walks groups pages file.cells refl long valid.cells in
    let count : suc (length pages + groups) ≡ end_block_of (length pages) = omega arith in
    subst (λ (count : ℕ). IsMadeOf count (block_of file) (placed_bytes file)) count
    (made_next (length pages + groups) (block_of file) (block_in pages file.cells) (stamped_block file.header) (group_bytes groups pages file.cells) (length-header file.header valid.header) refl (λ place within. refl) behind)
