-- The blocks of a file of version 3 by their places.
use Rattle.std.proofs.Common.{◌≡◌, ℕ, zero, suc, ◌+◌, ◌*◌, ◌/◌, ◌%◌, ◌<◌, ◌≤◌, List, [], ◌∷◌, ◌++◌, length, take, drop, slice_get, Some, refl, sym, ap, ◌∙◌, subst, arith}
use Rattle.std.specs.List.{AllByRecursion, flat_map}
use Rattle.std.proofs.lemmas.List.{drop-drop, length-append, length-drop, length-take, length-take-le}
use Rattle.std.proofs.lemmas.Option.{slice_get_within}
use Rattle.byteorder.specs.Endian.{big_bytes}
use Rattle.byteorder.specs.Numbers.{length-bytes_high_first}
use Rattle.exh_keyer.specs.Pseudokey.{any_pseudokey}
use Rattle.exh_prefix.specs.Version.{second_version}
use Rattle.exh_page.specs.declared.page.Page.{Page}
use Rattle.exh_legal.specs.MapLemmas.{page_at}
use Rattle.exh_codec.specs.BlockLemmas.{length-padded, length-sealed}
use Rattle.exh_codec.specs.CodecLaws.{ImagesAreBlocks}
use Rattle.exh_codec.specs.PageImage.{IsImage, IsPage, padded}
use Rattle.exh_format.specs.declared.header.Header.{Header}
use Rattle.exh_format.specs.FileVersion.{FileVersion}
use Rattle.exh_format.specs.HeaderImage.{front_bytes, header_bytes}
use Rattle.exh_format.specs.FileTests.{block_at, bytes_from}
use Rattle.exh_format.specs.PageFile.{page_block}
use Rattle.exh_cells.specs.declared.cell.Cell.{Cell}
use Rattle.exh_cells.specs.declared.stamped_header.StampedHeader.{StampedHeader}
use Rattle.exh_cells.specs.BlockLaws.{WalksAreBlocks}
use Rattle.exh_cells.specs.PlacedFile.{IsPlacedFile, PlacedFile, group_bytes, stamped_block, walk_block}
use Rattle.exh_cells.specs.Places.{groups_of, page_block_of, walk_block_of}
use Rattle.exh_cells.specs.StampedHeader.{IsStampedHeader, IsStampedImage, placed_format, plain_header, stamped_bytes}
use Rattle.exh_cells.specs.WalkImage.{IsCell, IsWalkImage}
use Rattle.exh_direct.specs.StandingBlocks.{AreBlocks, StandsAt, behind_all, drop_next, one_of, stands}

-- ---- parts of lists

pub slice_take : {X : Type 0} (n : ℕ) (xs : List X) (i : ℕ) → i < n → slice_get (take n xs) i ≡ slice_get xs i
slice_take zero xs i less = absurd (omega (arith, less))
slice_take (suc n) [] i less = refl
slice_take (suc n) (y ∷ xs) zero less = refl
slice_take (suc n) (y ∷ xs) (suc i) less = slice_take n xs i (omega (arith, less))

pub slice_drop : {X : Type 0} (n : ℕ) (xs : List X) (i : ℕ) → slice_get (drop n xs) i ≡ slice_get xs (n + i)
slice_drop zero xs i = let same : i ≡ 0 + i = omega arith in ap (slice_get xs) same
slice_drop (suc n) [] i = refl
slice_drop (suc n) (y ∷ xs) i = slice_drop n xs i ∙ (let same : suc (n + i) ≡ suc n + i = omega arith in ap (slice_get (y ∷ xs)) same)

all_take : {X : Type 0} (P : X → Type 0) (n : ℕ) (xs : List X) → AllByRecursion P xs → AllByRecursion P (take n xs)
all_take P zero xs all = tt
all_take P (suc n) [] all = tt
all_take P (suc n) (x ∷ xs) all = (all.0, all_take P n xs all.1)

all_drop : {X : Type 0} (P : X → Type 0) (n : ℕ) (xs : List X) → AllByRecursion P xs → AllByRecursion P (drop n xs)
all_drop P zero xs all = all
all_drop P (suc n) [] all = tt
all_drop P (suc n) (x ∷ xs) all = all_drop P n xs all.1

-- the elements of a group
abbrev pub in_group : {X : Type 0} → ℕ → List X → List X
in_group group xs = take 24 (drop (24 * group) xs)

pub slice_group : {X : Type 0} (xs : List X) (place : ℕ) → slice_get (in_group (place / 24) xs) (place % 24) ≡ slice_get xs place
slice_group xs place =
    let less : place % 24 < 24 = omega arith in
    let whole : 24 * (place / 24) + place % 24 ≡ place = omega arith in
    slice_take 24 (drop (24 * (place / 24)) xs) (place % 24) less ∙ slice_drop (24 * (place / 24)) xs (place % 24) ∙ ap (slice_get xs) whole

-- ---- how long a header's block is

pub length-front : (version : FileVersion) (header : Header) → length (front_bytes version header) ≡ 20
unfolding front_bytes
length-front version header = refl

pub length-counts : (counts : List ℕ) → length (flat_map (big_bytes 4) counts) ≡ 4 * length counts
length-counts [] = refl
length-counts (count ∷ counts) = omega (arith, length-append (big_bytes 4 count) (flat_map (big_bytes 4) counts), length-bytes_high_first 4 count, length-counts counts)

length-stamped : (header : StampedHeader) → IsStampedHeader header → length (stamped_bytes header) ≤ 4064
length-stamped header valid =
    let plain = plain_header header in
    let stamps = big_bytes 8 header.stamp ++ big_bytes 8 header.before in
    omega (
      arith,
      length-append (header_bytes placed_format plain) stamps,
      length-append (front_bytes placed_format plain) (flat_map (big_bytes 4) header.page_counts),
      length-front placed_format plain,
      length-counts header.page_counts,
      valid.plain.counts,
      length-append (big_bytes 8 header.stamp) (big_bytes 8 header.before),
      length-bytes_high_first 8 header.stamp,
      length-bytes_high_first 8 header.before,
    )

header_image : (header : StampedHeader) → IsStampedHeader header → IsStampedImage header (stamped_block header)
unfolding stamped_block
header_image header valid = record { valid = valid; whole = refl }

pub length-header : (header : StampedHeader) → IsStampedHeader header → length (stamped_block header) ≡ 4096
length-header header valid =
    length-sealed (stamped_block header) (padded 4064 (stamped_bytes header)) (length-padded 4064 (stamped_bytes header) (length-stamped header valid)) (header_image header valid).whole

walk_image : (cells : List Cell) → length cells ≤ 24 → AllByRecursion IsCell cells → IsWalkImage cells (walk_block cells)
unfolding walk_block
walk_image cells few valid = record { few = few; valid = valid; whole = refl }

module _ (page_blocks : ImagesAreBlocks) (walk_blocks : WalksAreBlocks) where
  -- ---- groups, of which all but the last are full

  length-page : (pseudo : List ℕ → ℕ) (page : Page) → IsPage second_version pseudo page → length (page_block page) ≡ 4096
  unfolding page_block
  length-page pseudo page valid = page_blocks second_version pseudo page (page_block page) (record { valid = valid; whole = refl })

  page_lengths : (pseudo : List ℕ → ℕ) (pages : List Page) → AllByRecursion (IsPage second_version pseudo) pages → AreBlocks page_block pages
  page_lengths pseudo [] valid = tt
  page_lengths pseudo (page ∷ pages) valid = (length-page pseudo page valid.0, page_lengths pseudo pages valid.1)

  length-walk : (cells : List Cell) → AllByRecursion IsCell cells → length (walk_block (take 24 cells)) ≡ 4096
  length-walk cells valid = walk_blocks (take 24 cells) (walk_block (take 24 cells)) (walk_image (take 24 cells) (omega (arith, length-take 24 cells)) (all_take IsCell 24 cells valid))

  abbrev group_block : List Page → List Cell → List ℕ → List ℕ
  group_block pages cells after = walk_block (take 24 cells) ++ (flat_map page_block (take 24 pages) ++ after)

  -- behind a full group come the others
  behind_group : (i : ℕ) (pages : List Page) (cells : List Cell) (after : List ℕ) → AreBlocks page_block pages → AllByRecursion IsCell cells → 24 ≤ length pages → drop (4096 * (25 * suc i)) (group_block pages cells after) ≡ drop (4096 * (25 * i)) after
  behind_group i pages cells after lengths valid full =
      let front = take 24 pages in
      let bodies = flat_map page_block front in
      let many : length front ≡ 24 = length-take-le 24 pages full in
      let first : 4096 * (25 * suc i) ≡ 4096 * suc (24 + 25 * i) = omega arith in
      let second : 4096 * (24 + 25 * i) ≡ 4096 * length front + 4096 * (25 * i) = omega (arith, many) in
      ap (λ (n : ℕ). drop n (group_block pages cells after)) first ∙ drop_next (24 + 25 * i) (walk_block (take 24 cells)) (bodies ++ after) (length-walk cells valid)
      ∙ ap (λ (n : ℕ). drop n (bodies ++ after)) second ∙ sym (drop-drop (4096 * (25 * i)) (4096 * length front) (bodies ++ after))
      ∙ ap (drop (4096 * (25 * i))) (behind_all page_block front after (all_take (λ (page : Page). length (page_block page) ≡ 4096) 24 pages lengths))

  group_at : (groups group : ℕ) (pages : List Page) (cells : List Cell) → group < groups → 24 * group < length pages → AreBlocks page_block pages → AllByRecursion IsCell cells
      → (after : List ℕ) × (drop (4096 * (25 * group)) (group_bytes groups pages cells) ≡ group_block (drop (24 * group) pages) (drop (24 * group) cells) after)
  group_at zero group pages cells less some lengths valid = absurd (omega (arith, less))
  group_at (suc groups) zero pages cells less some lengths valid = (group_bytes groups (drop 24 pages) (drop 24 cells), refl)
  group_at (suc groups) (suc group) pages cells less some lengths valid =
      let more = group_at groups group (drop 24 pages) (drop 24 cells) (omega (arith, less)) (omega (arith, some, length-drop 24 pages)) (all_drop (λ (page : Page). length (page_block page) ≡ 4096) 24 pages lengths) (all_drop IsCell 24 cells valid) in
      let next : 24 + 24 * group ≡ 24 * suc group = omega arith in
      let later : drop (24 * group) (drop 24 pages) ≡ drop (24 * suc group) pages = drop-drop (24 * group) 24 pages ∙ ap (λ (n : ℕ). drop n pages) next in
      let cells_later : drop (24 * group) (drop 24 cells) ≡ drop (24 * suc group) cells = drop-drop (24 * group) 24 cells ∙ ap (λ (n : ℕ). drop n cells) next in (
        more.0,
        behind_group group pages cells (group_bytes groups (drop 24 pages) (drop 24 cells)) lengths valid (omega (arith, some)) ∙ more.1 ∙ (λ i. group_block (later i) (cells_later i) more.0),
      )

  -- ---- a file

  module _ (file : PlacedFile) (bytes : List ℕ) (is : IsPlacedFile file bytes) where
    abbrev pseudo : List ℕ → ℕ
    pseudo = any_pseudokey file.header.settings.keyer

    abbrev behind : List ℕ
    behind = group_bytes (groups_of (length file.pages)) file.pages file.cells

    lengths : AreBlocks page_block file.pages
    lengths = page_lengths pseudo file.pages is.valid.pages

    pub header_stands : StandsAt 0 bytes (stamped_block file.header)
    header_stands = stands 0 bytes (stamped_block file.header) behind is.whole (length-header file.header is.valid.header)

    pub header_is : IsStampedImage file.header (block_at 0 bytes)
    header_is = subst (IsStampedImage file.header) (sym header_stands.is) (header_image file.header is.valid.header)

    from : (i : ℕ) → bytes_from (suc i) bytes ≡ drop (4096 * i) behind
    from i = ap (drop (4096 * suc i)) is.whole ∙ drop_next i (stamped_block file.header) behind (length-header file.header is.valid.header)

    group_there : (group : ℕ) → 24 * group < length file.pages → (after : List ℕ) × (bytes_from (suc (25 * group)) bytes ≡ group_block (drop (24 * group) file.pages) (drop (24 * group) file.cells) after)
    group_there group some =
        let found = group_at (groups_of (length file.pages)) group file.pages file.cells (omega (arith, some)) some lengths is.valid.cells in
        (found.0, from (25 * group) ∙ found.1)

    -- a group's walk block
    pub walk_stands : (group : ℕ) → 24 * group < length file.pages → StandsAt (walk_block_of group) bytes (walk_block (in_group group file.cells))
    walk_stands group some =
        let found = group_there group some in
        let place : suc (25 * group) ≡ walk_block_of group = omega arith in
        subst (λ (place : ℕ). StandsAt place bytes (walk_block (in_group group file.cells))) place
        (stands (suc (25 * group)) bytes (walk_block (in_group group file.cells)) _ found.1 (length-walk (drop (24 * group) file.cells) (all_drop IsCell (24 * group) file.cells is.valid.cells)))

    pub walk_is : (group : ℕ) → 24 * group < length file.pages → IsWalkImage (in_group group file.cells) (block_at (walk_block_of group) bytes)
    walk_is group some =
        let own = drop (24 * group) file.cells in
        subst (IsWalkImage (in_group group file.cells)) (sym (walk_stands group some).is)
        (walk_image (in_group group file.cells) (omega (arith, length-take 24 own)) (all_take IsCell 24 own (all_drop IsCell (24 * group) file.cells is.valid.cells)))

    pub length-group : (group : ℕ) → 24 * group < length file.pages → length (in_group group file.cells) ≡ length (in_group group file.pages)
    length-group group some = omega (arith, length-take 24 (drop (24 * group) file.cells), length-drop (24 * group) file.cells, length-take 24 (drop (24 * group) file.pages), length-drop (24 * group) file.pages, is.valid.all)

    -- a page's block
    pub page_valid : (place : ℕ) (page : Page) → slice_get file.pages place ≡ Some page → IsPage second_version pseudo page
    page_valid place page there = page_at (IsPage second_version pseudo) file.pages place page is.valid.pages there

    pub page_stands : (place : ℕ) (page : Page) → slice_get file.pages place ≡ Some page → StandsAt (page_block_of place) bytes (page_block page)
    page_stands place page there =
        let group = place / 24 in
        let within : place < length file.pages = slice_get_within file.pages place page there in
        let found = group_there group (omega (arith, within)) in
        let own = drop (24 * group) file.pages in
        let walk = walk_block (in_group group file.cells) in
        let bodies = flat_map page_block (take 24 own) in
        let mine = one_of page_block (take 24 own) (place % 24) page found.0 (all_take (λ (page : Page). length (page_block page) ≡ 4096) 24 own (all_drop (λ (page : Page). length (page_block page) ≡ 4096) (24 * group) file.pages lengths)) (slice_group file.pages place ∙ there) in
        let split : 4096 * (suc (25 * group) + suc (place % 24)) ≡ 4096 * suc (25 * group) + 4096 * suc (place % 24) = omega arith in
        let place_is : suc (25 * group) + suc (place % 24) ≡ page_block_of place = omega arith in
        let whole : bytes_from (suc (25 * group) + suc (place % 24)) bytes ≡ page_block page ++ mine.0 =
        ap (λ (n : ℕ). drop n bytes) split ∙ sym (drop-drop (4096 * suc (place % 24)) (4096 * suc (25 * group)) bytes) ∙ ap (drop (4096 * suc (place % 24))) found.1
        ∙ drop_next (place % 24) walk (bodies ++ found.0) (length-walk (drop (24 * group) file.cells) (all_drop IsCell (24 * group) file.cells is.valid.cells)) ∙ mine.1 in
        subst (λ (place : ℕ). StandsAt place bytes (page_block page)) place_is
        (stands (suc (25 * group) + suc (place % 24)) bytes (page_block page) mine.0 whole (length-page pseudo page (page_valid place page there)))

    pub page_is : (place : ℕ) (page : Page) → slice_get file.pages place ≡ Some page → IsImage second_version pseudo page (block_at (page_block_of place) bytes)
    unfolding page_block
    page_is place page there = record { valid = page_valid place page there; whole = (page_stands place page there).is }
