-- Bytes are those of one file.
use Rattle.std.proofs.Common.{◌≡◌, ℕ, zero, suc, ◌*◌, ◌≤◌, List, [], ◌∷◌, ◌++◌, length, take, drop, refl, sym, ap, ◌∙◌, subst, append_assoc, take-append-drop, arith}
use Rattle.std.proofs.lemmas.List.{take_at, drop_at, length-drop}
use Rattle.std.specs.List.{AllByRecursion, flat_map, sum}
use Rattle.exh_keyer.specs.Pseudokey.{any_pseudokey}
use Rattle.exh_prefix.specs.Version.{Fits, second_version}
use Rattle.exh_page.specs.declared.page.Page.{Page}
use Rattle.exh_codec.specs.PageImage.{IsImage, IsPage}
use Rattle.exh_codec.specs.CodecLaws.{ImagesAreBlocks, OnePage}
use Rattle.exh_format.specs.PageFile.{page_block}
use Rattle.exh_cells.specs.declared.cell.Cell.{Cell}
use Rattle.exh_cells.specs.declared.stamped_header.StampedHeader.{StampedHeader}
use Rattle.exh_cells.specs.BlockLaws.{OneStamped, OneWalk, WalksAreBlocks}
use Rattle.exh_cells.specs.Places.{groups_of}
use Rattle.exh_cells.specs.PlacedFile.{IsPlacedFile, PlacedFile, group_bytes, stamped_block, walk_block}
use Rattle.exh_cells.specs.StampedHeader.{IsStampedImage}
use Rattle.exh_cells.specs.WalkImage.{IsCell, IsWalkImage}
use Rattle.exh_versions.proofs.Headers.{length-stamped_block, stamped_image}
use Rattle.exh_versions.proofs.Places.{back_of, few_first, front_of, same_first, same_others, walk_image}

-- bytes that begin with one of two blocks
same_fronts : (one other rest after : List ℕ) → length one ≡ 4096 → length other ≡ 4096 → one ++ rest ≡ other ++ after → (one ≡ other) × (rest ≡ after)
same_fronts one other rest after first second same = (
  sym (take_at one rest 4096 first) ∙ ap (take 4096) same ∙ take_at other after 4096 second,
  sym (drop_at one rest 4096 first) ∙ ap (drop 4096) same ∙ drop_at other after 4096 second,
)

fits_page : Fits 8 second_version
fits_page = record { limit = omega arith; bytes = omega arith }

module _ (page_blocks : ImagesAreBlocks) (one_page : OnePage) (walk_blocks : WalksAreBlocks) (one_walk : OneWalk) (one_header : OneStamped) where
  same_pages : (pseudo : List ℕ → ℕ) (one other : List Page) (rest after : List ℕ) → length one ≡ length other → AllByRecursion (IsPage second_version pseudo) one → AllByRecursion (IsPage second_version pseudo) other
      → flat_map page_block one ++ rest ≡ flat_map page_block other ++ after → (one ≡ other) × (rest ≡ after)
  unfolding page_block
  same_pages pseudo [] [] rest after len first second same = (refl, same)
  same_pages pseudo [] (q ∷ other) rest after len first second same = absurd (omega (arith, len))
  same_pages pseudo (p ∷ one) [] rest after len first second same = absurd (omega (arith, len))
  same_pages pseudo (p ∷ one) (q ∷ other) rest after len first second same =
      let p_image : IsImage second_version pseudo p (page_block p) = record { valid = first.0; whole = refl } in
      let q_image : IsImage second_version pseudo q (page_block q) = record { valid = second.0; whole = refl } in
      let heads = same_fronts (page_block p) (page_block q) (flat_map page_block one ++ rest) (flat_map page_block other ++ after)
      (page_blocks second_version pseudo p (page_block p) p_image) (page_blocks second_version pseudo q (page_block q) q_image)
      (sym (append_assoc (page_block p) (flat_map page_block one) rest) ∙ same ∙ append_assoc (page_block q) (flat_map page_block other) after) in
      let page : p ≡ q = one_page second_version fits_page pseudo (page_block q) p q (subst (IsImage second_version pseudo p) heads.0 p_image) q_image in
      let tails = same_pages pseudo one other rest after (omega (arith, len)) first.1 second.1 heads.1 in
      ((λ i. page i ∷ tails.0 i), tails.1)

  same_cells : (one other : List Cell) (rest after : List ℕ) → length one ≡ length other → IsWalkImage one (walk_block one) → IsWalkImage other (walk_block other)
      → walk_block one ++ rest ≡ walk_block other ++ after → (one ≡ other) × (rest ≡ after)
  same_cells one other rest after len first second same =
      let heads = same_fronts (walk_block one) (walk_block other) rest after (walk_blocks one (walk_block one) first) (walk_blocks other (walk_block other) second) same in
      (one_walk (walk_block other) one other len (subst (IsWalkImage one) heads.0 first) second, heads.1)

  -- the pages and cells of groups
  pub record Are (pseudo : List ℕ → ℕ) (groups : ℕ) (pages : List Page) (cells : List Cell) : Type 0 where
    pub all : length cells ≡ length pages
    pub room : length pages ≤ 24 * groups
    pub cells_valid : AllByRecursion IsCell cells
    pub pages_valid : AllByRecursion (IsPage second_version pseudo) pages

  others_are : (pseudo : List ℕ → ℕ) (groups : ℕ) (pages : List Page) (cells : List Cell) → Are pseudo (suc groups) pages cells → Are pseudo groups (drop 24 pages) (drop 24 cells)
  others_are pseudo groups pages cells are = record {
    all = same_others cells pages are.all;
    room = omega (arith, length-drop 24 pages, are.room);
    cells_valid = back_of IsCell 24 cells are.cells_valid;
    pages_valid = back_of (IsPage second_version pseudo) 24 pages are.pages_valid;
  }

  same_groups : (pseudo : List ℕ → ℕ) (groups : ℕ) (pages others : List Page) (cells other_cells : List Cell) → length pages ≡ length others → Are pseudo groups pages cells → Are pseudo groups others other_cells
      → group_bytes groups pages cells ≡ group_bytes groups others other_cells → (pages ≡ others) × (cells ≡ other_cells)
  same_groups pseudo zero [] [] [] [] len first second same = (refl, refl)
  same_groups pseudo zero (p ∷ pages) others cells other_cells len first second same = absurd (omega (arith, first.room))
  same_groups pseudo zero [] (q ∷ others) cells other_cells len first second same = absurd (omega (arith, len))
  same_groups pseudo zero [] [] (c ∷ cells) other_cells len first second same = absurd (omega (arith, first.all))
  same_groups pseudo zero [] [] [] (d ∷ other_cells) len first second same = absurd (omega (arith, second.all))
  same_groups pseudo (suc groups) pages others cells other_cells len first second same =
      let front = take 24 pages in
      let opposite = take 24 others in
      let rest = group_bytes groups (drop 24 pages) (drop 24 cells) in
      let after = group_bytes groups (drop 24 others) (drop 24 other_cells) in
      let cells_len : length cells ≡ length other_cells = omega (arith, first.all, second.all, len) in
      let walks = same_cells (take 24 cells) (take 24 other_cells) (flat_map page_block front ++ rest) (flat_map page_block opposite ++ after) (same_first cells other_cells cells_len)
      (walk_image (take 24 cells) (few_first cells) (front_of IsCell 24 cells first.cells_valid)) (walk_image (take 24 other_cells) (few_first other_cells) (front_of IsCell 24 other_cells second.cells_valid)) same in
      let pages_same = same_pages pseudo front opposite rest after (same_first pages others len)
      (front_of (IsPage second_version pseudo) 24 pages first.pages_valid) (front_of (IsPage second_version pseudo) 24 others second.pages_valid) walks.1 in
      let behind = same_groups pseudo groups (drop 24 pages) (drop 24 others) (drop 24 cells) (drop 24 other_cells) (same_others pages others len) (others_are pseudo groups pages cells first) (others_are pseudo groups others other_cells second) pages_same.1 in (
        sym (take-append-drop 24 pages) ∙ (λ i. pages_same.0 i ++ behind.0 i) ∙ take-append-drop 24 others,
        sym (take-append-drop 24 cells) ∙ (λ i. walks.0 i ++ behind.1 i) ∙ take-append-drop 24 other_cells,
      )

  made : StampedHeader → List Page → List Cell → PlacedFile
  made header pages cells = record { header = header; pages = pages; cells = cells }

  pub one_file : (bytes : List ℕ) (one other : PlacedFile) → IsPlacedFile one bytes → IsPlacedFile other bytes → one ≡ other
  unfolding made
  one_file bytes one other first second =
      let one_image = stamped_image one.header first.valid.header in
      let groups = groups_of (length one.pages) in
      let bodies = group_bytes groups one.pages one.cells in
      let others = group_bytes (groups_of (length other.pages)) other.pages other.cells in
      let heads = same_fronts (stamped_block one.header) (stamped_block other.header) bodies others (length-stamped_block one.header first.valid.header) (length-stamped_block other.header second.valid.header)
      (sym first.whole ∙ second.whole) in
      let header : one.header ≡ other.header = one_header (stamped_block other.header) one.header other.header (subst (IsStampedImage one.header) heads.0 one_image) (stamped_image other.header second.valid.header) in
      let count : length one.pages ≡ length other.pages = first.valid.count ∙ ap (λ (header : StampedHeader). sum header.page_counts) header ∙ sym second.valid.count in
      let pseudo = any_pseudokey other.header.settings.keyer in
      let valid = subst (λ (header : StampedHeader). AllByRecursion (IsPage second_version (any_pseudokey header.settings.keyer)) one.pages) header first.valid.pages in
      let one_are : Are pseudo groups one.pages one.cells = record { all = first.valid.all; room = omega arith; cells_valid = first.valid.cells; pages_valid = valid } in
      let other_are : Are pseudo groups other.pages other.cells = record { all = second.valid.all; room = omega (arith, count); cells_valid = second.valid.cells; pages_valid = second.valid.pages } in
      let same = same_groups pseudo groups one.pages other.pages one.cells other.cells count one_are other_are
      (heads.1 ∙ ap (λ (count : ℕ). group_bytes (groups_of count) other.pages other.cells) (sym count)) in
      (λ i. made (header i) (same.0 i) (same.1 i))
