-- The tests of a header block in their order, each over the whole block.
use Rattle.std.specs.Prelude.{◌≡◌, ⊤, ℕ, ◌+◌, ◌*◌, ◌<◌, List, [], ◌∷◌, take, slice_index, slice_range, codes}
use Rattle.byteorder.specs.Endian.{big_from}
use Rattle.exh_legal.specs.NoticeImages.{items}
use Rattle.exh_codec.specs.declared.block.TheConstants.{CONTENT_LEN}
use Rattle.exh_codec.specs.declared.image_fault.ImageFault.TheVariants as images
use Rattle.exh_codec.specs.Block.{IsSealed, AreZero}
use Rattle.exh_format.specs.declared.file_fault.FileFault.{FileFault}
use Rattle.exh_format.specs.declared.file_fault.FileFault.TheVariants as faults
use Rattle.exh_format.specs.declared.header.Header.{Header}
use Rattle.exh_format.specs.declared.header.TheConstants.{COUNTS_LEN, HEADER_LEN}
use Rattle.exh_format.specs.FileVersion.{FileVersion}
use Rattle.exh_legal.specs.Keyers.{keyer_byte}
use Rattle.exh_format.specs.HeaderImage.{IsHeader}

-- the header is what the fields of a block say
pub record IsReadHeader (block : List ℕ) (header : Header) : Type 0 where
  pub cap : slice_index block 10 ≡ header.settings.cap
  pub ward_bits : slice_index block 11 ≡ header.settings.ward_bits
  pub keyer : slice_index block 12 ≡ keyer_byte header.settings.keyer
  pub entries : big_from 16 4 block ≡ header.entry_count
  pub counts : (ward : ℕ) → ward < COUNTS_LEN → big_from (20 + 4 * ward) 4 block ≡ slice_index header.page_counts ward

-- ---- the tests

abbrev pub HasMagic : List ℕ → Type 0
HasMagic block = take 8 block ≡ codes "EXHASHPF"

abbrev pub IsOfVersion : FileVersion → List ℕ → Type 0
IsOfVersion version block = big_from 8 2 block ≡ version.number

-- the fields are those of a header that a file may have
abbrev pub HasRanges : FileVersion → List ℕ → Type 0
HasRanges version block = (header : Header) × IsReadHeader block header × IsHeader version header

-- the bytes outside the fields are zero
pub record IsHeaderPadded (block : List ℕ) : Type 0 where
  pub between : AreZero (items 13 3 block)
  pub rest : AreZero (slice_range block HEADER_LEN CONTENT_LEN)

-- ---- their order

-- the block passes the test that a fault is named after
abbrev pub PassesHeader : FileVersion → List ℕ → FileFault → Type 0
PassesHeader version block faults.Magic = HasMagic block
PassesHeader version block faults.Version = IsOfVersion version block
PassesHeader version block (faults.Block place images.Digest) = IsSealed block
PassesHeader version block (faults.Block place images.Length) = HasRanges version block
PassesHeader version block (faults.Block place images.Padding) = IsHeaderPadded block
PassesHeader version block (faults.Block place fault) = ⊤
PassesHeader version block faults.Truncated = ⊤
PassesHeader version block faults.Trailing = ⊤

-- the header is the block of place 0
abbrev pub header_tests : List FileFault
header_tests = faults.Magic ∷ faults.Version ∷ faults.Block 0 images.Digest ∷ faults.Block 0 images.Length ∷ faults.Block 0 images.Padding ∷ []
