-- The header block of a page file of version 3, and its tests in their order.
use Rattle.std.specs.Prelude.{◌≡◌, ⊤, ℕ, ◌+◌, ◌*◌, ◌^◌, ◌<◌, List, ◌++◌, slice_index, slice_range}
use Rattle.byteorder.specs.Endian.{big_bytes, big_from}
use Rattle.exh_prefix.specs.declared.version.Version.TheVariants.{Second}
use Rattle.exh_prefix.specs.Version.{second_version}
use Rattle.exh_format.specs.Keyers.{keyer_byte}
use Rattle.exh_codec.specs.declared.block.TheConstants.{CONTENT_LEN}
use Rattle.exh_codec.specs.declared.image_fault.ImageFault.TheVariants as images
use Rattle.exh_codec.specs.Block.{IsSealed, AreZero, sealed}
use Rattle.exh_codec.specs.PageImage.{padded}
use Rattle.exh_format.specs.declared.file_fault.FileFault.{FileFault}
use Rattle.exh_format.specs.declared.file_fault.FileFault.TheVariants as faults
use Rattle.exh_format.specs.declared.header.Header.{Header}
use Rattle.exh_format.specs.FileVersion.{FileVersion}
use Rattle.exh_format.specs.HeaderImage.{IsHeader, header_bytes}
use Rattle.exh_format.specs.HeaderTests.{HasMagic, IsOfVersion}
use Rattle.exh_cells.specs.declared.stamped_header.StampedHeader.{StampedHeader}
use Rattle.exh_cells.specs.declared.fit.TheConstants.{COUNTS_LEN}
use Rattle.exh_format.specs.declared.header.TheConstants.{STAMPED_LEN}

-- version 3: its images are those of version 2
abbrev pub placed_format : FileVersion
placed_format = record { number = 3; images = second_version }

-- what it has in common with the headers before: it counts no entries
abbrev pub plain_header : StampedHeader → Header
plain_header header = record { settings = header.settings; entry_count = 0; page_counts = header.page_counts }

-- a header that a file may have
pub record IsStampedHeader (header : StampedHeader) : Type 0 where
  pub plain : IsHeader placed_format (plain_header header)
  pub stamp : header.stamp < 2 ^ 64
  pub before : header.before < 2 ^ 64

-- the bytes of a header with the count of entries 0, and then the two stamps
abbrev pub stamped_bytes : StampedHeader → List ℕ
stamped_bytes header = header_bytes placed_format (plain_header header) ++ (big_bytes 8 header.stamp ++ big_bytes 8 header.before)

-- the block is the image of the header
pub record IsStampedImage (header : StampedHeader) (block : List ℕ) : Type 0 where
  pub valid : IsStampedHeader header
  pub whole : block ≡ sealed (padded CONTENT_LEN (stamped_bytes header))

-- ---- the tests

-- the header is what the fields of a block say
pub record IsReadStamped (block : List ℕ) (header : StampedHeader) : Type 0 where
  pub cap : slice_index block 10 ≡ header.settings.cap
  pub ward_bits : slice_index block 11 ≡ header.settings.ward_bits
  pub keyer : slice_index block 12 ≡ keyer_byte header.settings.keyer
  pub counts : (ward : ℕ) → ward < COUNTS_LEN → big_from (20 + 4 * ward) 4 block ≡ slice_index header.page_counts ward
  pub stamp : big_from 84 8 block ≡ header.stamp
  pub before : big_from 92 8 block ≡ header.before

-- the fields are those of a header that a file may have
abbrev pub HasStampedRanges : List ℕ → Type 0
HasStampedRanges block = (header : StampedHeader) × IsReadStamped block header × IsStampedHeader header

-- the bytes outside the fields are zero
pub record IsStampedPadded (block : List ℕ) : Type 0 where
  pub between : AreZero (slice_range block 13 20)
  pub rest : AreZero (slice_range block STAMPED_LEN CONTENT_LEN)

-- the block passes the test that a fault is named after
abbrev pub PassesStamped : List ℕ → FileFault → Type 0
PassesStamped block faults.Magic = HasMagic block
PassesStamped block faults.Version = IsOfVersion placed_format block
PassesStamped block (faults.Block place images.Digest) = IsSealed block
PassesStamped block (faults.Block place images.Length) = HasStampedRanges block
PassesStamped block (faults.Block place images.Padding) = IsStampedPadded block
PassesStamped block (faults.Block place fault) = ⊤
PassesStamped block faults.Truncated = ⊤
PassesStamped block faults.Trailing = ⊤
