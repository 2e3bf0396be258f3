-- Headers, walk blocks and pages have the length of a block.
use Rattle.std.proofs.Common.{◌≡◌, ℕ, ◌*◌, ◌≤◌, List, [], ◌∷◌, ◌++◌, length, take, refl, arith}
use Rattle.std.specs.List.{AllByRecursion, flat_map}
use Rattle.std.proofs.lemmas.List.{length-append, length-take}
use Rattle.byteorder.specs.Endian.{big_bytes}
use Rattle.byteorder.specs.Numbers.{length-bytes_high_first}
use Rattle.exh_prefix.specs.Version.{second_version}
use Rattle.exh_page.specs.declared.page.Page.{Page}
use Rattle.exh_codec.specs.BlockLemmas.{length-padded, length-sealed}
use Rattle.exh_codec.specs.CodecLaws.{ImagesAreBlocks}
use Rattle.exh_codec.specs.PageImage.{IsPage, padded}
use Rattle.exh_cells.specs.declared.Header.{Header}
use Rattle.exh_cells.specs.FileVersion.{FileVersion}
use Rattle.exh_cells.specs.HeaderImage.{front_bytes}
use Rattle.exh_cells.specs.PageFile.{page_block}
use Rattle.exh_cells.specs.declared.cell.Cell.{Cell}
use Rattle.exh_cells.specs.declared.stamped_header.StampedHeader.{StampedHeader}
use Rattle.exh_cells.specs.BlockLaws.{WalksAreBlocks}
use Rattle.exh_cells.specs.PlacedFile.{stamped_block, walk_block}
use Rattle.exh_cells.specs.StampedHeader.{IsStampedHeader, placed_format, plain_header, stamped_bytes}
use Rattle.exh_cells.specs.WalkImage.{IsCell, IsWalkImage}
use Rattle.exh_edits.proofs.Parts.{all_take}

-- ---- headers

length-fields : (version : FileVersion) (header : Header) → length (front_bytes version header) ≡ 20
unfolding front_bytes
length-fields version header = refl

length-counts : (counts : List ℕ) → length (flat_map (big_bytes 4) counts) ≡ 4 * length counts
length-counts [] = refl
length-counts (count ∷ counts) = omega (arith, length-append (big_bytes 4 count) (flat_map (big_bytes 4) counts), length-bytes_high_first 4 count, length-counts counts)

length-stamped : (header : StampedHeader) → IsStampedHeader header → length (stamped_bytes header) ≡ 100
length-stamped header valid =
    let fields = front_bytes placed_format (plain_header header) in
    let counts = flat_map (big_bytes 4) header.page_counts in
    let stamp = big_bytes 8 header.stamp in
    let before = big_bytes 8 header.before in
    omega (
      arith,
      length-append (fields ++ counts) (stamp ++ before),
      length-append fields counts,
      length-append stamp before,
      length-fields placed_format (plain_header header),
      length-counts header.page_counts,
      valid.plain.counts,
      length-bytes_high_first 8 header.stamp,
      length-bytes_high_first 8 header.before,
    )

pub length-header : (header : StampedHeader) → IsStampedHeader header → length (stamped_block header) ≡ 4096
unfolding stamped_block
length-header header valid =
    let used = stamped_bytes header in
    length-sealed (stamped_block header) (padded 4064 used) (length-padded 4064 used (omega (arith, length-stamped header valid))) refl

-- ---- walk blocks and pages

walk_image : (cells : List Cell) → length cells ≤ 24 → AllByRecursion IsCell cells → IsWalkImage cells (walk_block cells)
unfolding walk_block
walk_image cells few valid = record { few = few; valid = valid; whole = refl }

pub length-walk : WalksAreBlocks → (cells : List Cell) → AllByRecursion IsCell cells → length (walk_block (take 24 cells)) ≡ 4096
length-walk walks cells valid =
    let first = take 24 cells in
    walks first (walk_block first) (walk_image first (omega (arith, length-take 24 cells)) (all_take IsCell 24 cells valid))

pub length-page : ImagesAreBlocks → (pseudo : List ℕ → ℕ) (page : Page) → IsPage second_version pseudo page → length (page_block page) ≡ 4096
unfolding page_block
length-page images pseudo page valid = images second_version pseudo page (page_block page) (record { valid = valid; whole = refl })

pub length-pages : ImagesAreBlocks → (pseudo : List ℕ → ℕ) (pages : List Page) → AllByRecursion (IsPage second_version pseudo) pages → AllByRecursion (λ page. length (page_block page) ≡ 4096) pages
length-pages images pseudo [] valid = tt
length-pages images pseudo (page ∷ pages) valid = (length-page images pseudo page valid.0, length-pages images pseudo pages valid.1)
