-- Header blocks and walk blocks have their digests, and are no page's.
use Rattle.std.proofs.Common.{◌≡◌, ℕ, zero, suc, ◌+◌, ◌*◌, ◌-◌, ◌/◌, ◌%◌, ◌^◌, ◌<◌, ◌≤◌, ◌⊎◌, inl, inr, List, [], ◌∷◌, ◌++◌, Option, Some, None, length, take, replicate, slice_index, refl, sym, ap, ◌∙◌, arith}
use Rattle.std.proofs.lemmas.List.{length-append, length-take}
use Rattle.std.specs.List.{AllByRecursion, flat_map}
use Rattle.sha2.specs.Sha256.{sha256}
use Rattle.byteorder.specs.Endian.{big_bytes}
use Rattle.byteorder.specs.Numbers.{length-bytes_high_first}
use Rattle.std.specs.Int.{byte_at}
use Rattle.exh_prefix.specs.PrefixByteLemmas.{byte_at-div}
use Rattle.exh_codec.specs.Block.{sealed}
use Rattle.exh_codec.specs.BlockLemmas.{length-padded, length-sealed, sealed_is_sealed}
use Rattle.exh_codec.specs.PageImage.{padded}
use Rattle.exh_salvage.specs.SavedBlock.{IsNoPage}
use Rattle.exh_salvage.specs.SavedLaws.{PagesAreSaved}
use Rattle.exh_format.specs.FileVersion.{FileVersion}
use Rattle.exh_format.specs.HeaderImage.{IsHeader, front_bytes, header_bytes}
use Rattle.exh_format.specs.PageFile.{header_block}
use Rattle.exh_format.specs.declared.header.Header.{Header}
use Rattle.exh_cells.specs.PlacedFile.{stamped_block, walk_block}
use Rattle.exh_cells.specs.StampedHeader.{IsStampedHeader, placed_format, plain_header, stamped_bytes}
use Rattle.exh_cells.specs.WalkImage.{IsCell, cell_bytes, slot_bytes}
use Rattle.exh_cells.specs.declared.cell.Cell.{Cell}
use Rattle.exh_cells.specs.declared.cell.Slot.{Slot}
use Rattle.exh_cells.specs.declared.stamped_header.StampedHeader.{StampedHeader}
use Rattle.exh_transfer.proofs.SavedBlocks.{IsBlockOf}

-- of a content that is no page's
pub sealed_block : (used block : List ℕ) → length used ≤ 4064 → block ≡ sealed (padded 4064 used) → IsNoPage block → IsBlockOf None block
sealed_block used block short whole none =
    let len = length-padded 4064 used short in
    record { long = length-sealed block (padded 4064 used) len whole; stands = (sealed_is_sealed block (padded 4064 used) len whole, none) }

-- ---- headers

length-fields : (version : FileVersion) (header : Header) → length (front_bytes version header) ≡ 20
unfolding front_bytes
length-fields version header = refl

length-counts : (counts : List ℕ) → length (flat_map (big_bytes 4) counts) ≡ 4 * length counts
length-counts [] = refl
length-counts (count ∷ counts) = omega (arith, length-append (big_bytes 4 count) (flat_map (big_bytes 4) counts), length-bytes_high_first 4 count, length-counts counts)

length-header : (version : FileVersion) (header : Header) → IsHeader version header → length (header_bytes version header) ≡ 84
length-header version header valid =
    omega (arith, length-append (front_bytes version header) (flat_map (big_bytes 4) header.page_counts), length-fields version header, length-counts header.page_counts, valid.counts)

-- it begins with the E of its magic
first_of_header : (version : FileVersion) (header : Header) (rest : List ℕ) → slice_index (front_bytes version header ++ rest) 0 ≡ 69
unfolding front_bytes
first_of_header version header rest = refl

first_of_used : (version : FileVersion) (header : Header) (more zeros digest : List ℕ) → slice_index (((header_bytes version header ++ more) ++ zeros) ++ digest) 0 ≡ 69
unfolding front_bytes
first_of_used version header more zeros digest = refl

first_of_plain : (version : FileVersion) (header : Header) (zeros digest : List ℕ) → slice_index ((header_bytes version header ++ zeros) ++ digest) 0 ≡ 69
unfolding front_bytes
first_of_plain version header zeros digest = refl

module _ (saved : PagesAreSaved) where
  pub header_is : (version : FileVersion) (header : Header) → IsHeader version header → IsBlockOf None (header_block version header)
  unfolding header_block
  header_is version header valid =
      let used = header_bytes version header in
      let len = length-header version header valid in
      let first : slice_index (header_block version header) 0 ≡ 69 = first_of_plain version header (replicate (4064 - length used) 0) (sha256 (padded 4064 used)) in
      sealed_block used (header_block version header) (omega (arith, len)) refl (saved.others (header_block version header) (inr (omega (arith, first))))

  pub stamped_is : (header : StampedHeader) → IsStampedHeader header → IsBlockOf None (stamped_block header)
  unfolding stamped_block
  stamped_is header valid =
      let used = stamped_bytes header in
      let stamps = big_bytes 8 header.stamp ++ big_bytes 8 header.before in
      let fields = header_bytes placed_format (plain_header header) in
      let len : length used ≡ 100 = omega (
        arith,
        length-append fields stamps,
        length-append (big_bytes 8 header.stamp) (big_bytes 8 header.before),
        length-header placed_format (plain_header header) valid.plain,
        length-bytes_high_first 8 header.stamp,
        length-bytes_high_first 8 header.before,
      ) in
      let first : slice_index (stamped_block header) 0 ≡ 69 = first_of_used placed_format (plain_header header) stamps (replicate (4064 - length used) 0) (sha256 (padded 4064 used)) in
      sealed_block used (stamped_block header) (omega (arith, len)) refl (saved.others (stamped_block header) (inr (omega (arith, first))))

-- ---- walk blocks

length-slots : (slots : List Slot) → length (flat_map slot_bytes slots) ≡ 8 * length slots
length-slots [] = refl
length-slots (slot ∷ slots) = omega (
  arith,
  length-append (slot_bytes slot) (flat_map slot_bytes slots),
  length-append (big_bytes 4 slot.number) (big_bytes 4 slot.page),
  length-bytes_high_first 4 slot.number,
  length-bytes_high_first 4 slot.page,
  length-slots slots,
)

length-cells : (cells : List Cell) → AllByRecursion IsCell cells → length (flat_map cell_bytes cells) ≡ 164 * length cells
length-cells [] valid = refl
length-cells (cell ∷ cells) valid = omega (
  arith,
  length-append (cell_bytes cell) (flat_map cell_bytes cells),
  length-append (big_bytes 4 cell.number) (flat_map slot_bytes cell.slots),
  length-bytes_high_first 4 cell.number,
  length-slots cell.slots,
  valid.0.read.count,
  length-cells cells valid.1,
)

-- a page's number of three bytes
abbrev pub IsShortNumber : Cell → Type 0
IsShortNumber cell = cell.number < 2 ^ 24

pub first_zero : (n : ℕ) (digest : List ℕ) → 0 < n → slice_index (replicate n 0 ++ digest) 0 ≡ 0
first_zero zero digest some = absurd (omega (arith, some))
first_zero (suc n) digest some = refl

first_number : (number : ℕ) (slots cells zeros digest : List ℕ) → slice_index ((((big_bytes 4 number ++ slots) ++ cells) ++ zeros) ++ digest) 0 ≡ byte_at 3 number
first_number number slots cells zeros digest = refl

first_of_walk : (cells : List Cell) → AllByRecursion IsShortNumber cells → slice_index (walk_block cells) 0 ≡ 0
unfolding walk_block
first_of_walk [] short = first_zero (4064 - 0) (sha256 (padded 4064 [])) (omega arith)
first_of_walk (cell ∷ cells) short =
    let used = flat_map cell_bytes (cell ∷ cells) in
    let top : byte_at 3 cell.number ≡ 0 = byte_at-div 3 cell.number ∙ (omega (arith, short.0)) in
    first_number cell.number (flat_map slot_bytes cell.slots) (flat_map cell_bytes cells) (replicate (4064 - length used) 0) (sha256 (padded 4064 used)) ∙ top

pub walk_is : PagesAreSaved → (cells : List Cell) → length cells ≤ 24 → AllByRecursion IsCell cells → AllByRecursion IsShortNumber cells → IsBlockOf None (walk_block cells)
unfolding walk_block
walk_is saved cells few valid short =
    let used = flat_map cell_bytes cells in
    sealed_block used (walk_block cells) (omega (arith, few, length-cells cells valid)) refl (saved.others (walk_block cells) (inl (omega (arith, first_of_walk cells short))))
