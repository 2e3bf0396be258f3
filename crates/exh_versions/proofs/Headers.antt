-- Headers: their blocks, and how many pages they count.
use Rattle.std.proofs.Common.{◌≡◌, ℕ, ◌*◌, ◌^◌, ◌≤◌, List, [], ◌∷◌, ◌++◌, length, take, refl, arith}
use Rattle.std.proofs.lemmas.List.{length-append, length-take}
use Rattle.std.specs.List.{flat_map, sum}
use Rattle.byteorder.specs.Endian.{big_bytes}
use Rattle.byteorder.specs.Numbers.{length-bytes_high_first}
use Rattle.exh_prefix.specs.declared.prefix.TheConstants.{LIMIT}
use Rattle.exh_codec.specs.BlockLemmas.{length-padded, length-sealed}
use Rattle.exh_codec.specs.PageImage.{padded}
use Rattle.exh_format.specs.declared.header.Header.{Header}
use Rattle.exh_format.specs.FileVersion.{FileVersion}
use Rattle.exh_format.specs.HeaderImage.{front_bytes}
use Rattle.exh_format.specs.HeaderLemmas.{all_counted, few_wards, small_sum}
use Rattle.exh_cells.specs.declared.stamped_header.StampedHeader.{StampedHeader}
use Rattle.exh_cells.specs.PlacedFile.{stamped_block}
use Rattle.exh_cells.specs.StampedHeader.{IsStampedHeader, IsStampedImage, placed_format, plain_header, stamped_bytes}

length-front : (version : FileVersion) (header : Header) → length (front_bytes version header) ≡ 20
unfolding front_bytes
length-front version header = refl

length-counts : (counts : List ℕ) → length (flat_map (big_bytes 4) counts) ≡ 4 * length counts
length-counts [] = refl
length-counts (count ∷ counts) = omega (arith, length-append (big_bytes 4 count) (flat_map (big_bytes 4) counts), length-bytes_high_first 4 count, length-counts counts)

length-stamped : (header : StampedHeader) → IsStampedHeader header → length (stamped_bytes header) ≡ 100
length-stamped header valid =
    let plain = plain_header header in
    let front = front_bytes placed_format plain in
    let counts = flat_map (big_bytes 4) header.page_counts in
    let one = big_bytes 8 header.stamp in
    let other = big_bytes 8 header.before in
    omega (
      arith,
      length-append (front ++ counts) (one ++ other),
      length-append front counts,
      length-append one other,
      length-front placed_format plain,
      length-counts header.page_counts,
      valid.plain.counts,
      length-bytes_high_first 8 header.stamp,
      length-bytes_high_first 8 header.before,
    )

pub length-stamped_block : (header : StampedHeader) → IsStampedHeader header → length (stamped_block header) ≡ 4096
unfolding stamped_block
length-stamped_block header valid =
    let used = stamped_bytes header in
    length-sealed (stamped_block header) (padded 4064 used) (length-padded 4064 used (omega (arith, length-stamped header valid))) refl

pub stamped_image : (header : StampedHeader) → IsStampedHeader header → IsStampedImage header (stamped_block header)
unfolding stamped_block
stamped_image header valid = record { valid = valid; whole = refl }

pub few_bits : (header : StampedHeader) → IsStampedHeader header → header.settings.ward_bits ≤ 4
few_bits header valid = few_wards header.settings.ward_bits valid.plain.wards

pub few_pages : (header : StampedHeader) → IsStampedHeader header → sum header.page_counts ≤ 16 * 2 ^ LIMIT
few_pages header valid =
    let bits = header.settings.ward_bits in
    let counts = take (2 ^ bits) header.page_counts in
    omega (
      arith,
      all_counted placed_format (plain_header header) valid.plain,
      small_sum LIMIT bits counts (omega arith) valid.plain.pages,
      length-take (2 ^ bits) header.page_counts,
      valid.plain.counts,
      valid.plain.wards,
    )
