-- The header block of a page file, in each version.
use Rattle.std.specs.Prelude.{◌≡◌, ℕ, ◌-◌, ◌^◌, ◌<◌, ◌≤◌, List, [], ◌∷◌, ◌++◌, length, take, drop, codes}
use Rattle.std.specs.List.{AllByRecursion, flat_map}
use Rattle.byteorder.specs.Endian.{big_bytes}
use Rattle.exh_legal.specs.Keyers.{keyer_byte}
use Rattle.exh_legal.specs.PageLimits.{CAP_LIMIT}
use Rattle.exh_codec.specs.declared.block.TheConstants.{CONTENT_LEN}
use Rattle.exh_codec.specs.Block.{sealed}
use Rattle.exh_codec.specs.PageImage.{padded}
use Rattle.exh_format.specs.declared.header.Header.{Header}
use Rattle.exh_format.specs.declared.header.TheConstants.{COUNTS_LEN}
use Rattle.exh_prefix.specs.declared.version.Version.{Version as KnownVersion}
use Rattle.exh_format.specs.FileVersion.{FileVersion, file_version}

-- ---- headers

-- how many pages a ward has: at least one, at most as many as there are prefixes of it
abbrev pub IsPageCount : ℕ → ℕ → ℕ → Type 0
IsPageCount limit ward_bits count = (1 ≤ count) × (count ≤ 2 ^ (limit - ward_bits))

-- a header that a file of the version may have
pub record IsHeader (version : FileVersion) (header : Header) : Type 0 where
  pub some : 1 ≤ header.settings.cap
  pub few : header.settings.cap ≤ CAP_LIMIT
  pub wards : 2 ^ header.settings.ward_bits ≤ COUNTS_LEN
  pub entries : header.entry_count < 2 ^ version.images.limit
  -- a count for each ward of the file, and zeros up to sixteen
  pub counts : length header.page_counts ≡ COUNTS_LEN
  pub pages : AllByRecursion (IsPageCount version.images.limit header.settings.ward_bits) (take (2 ^ header.settings.ward_bits) header.page_counts)
  pub others : AllByRecursion (λ count. count ≡ 0) (drop (2 ^ header.settings.ward_bits) header.page_counts)

-- a version that the code knows may have the header
abbrev pub IsKnownHeader : Header → Type 0
IsKnownHeader header = (version : KnownVersion) × IsHeader (file_version version) header

-- ---- their images

-- the bytes before the page counts: magic, version, cap, ward bits, keyer, three zeros, how many entries there are
unfoldable pub front_bytes : FileVersion → Header → List ℕ
front_bytes version header =
    codes "EXHASHPF" ++ big_bytes 2 version.number ++ header.settings.cap ∷ header.settings.ward_bits ∷ keyer_byte header.settings.keyer ∷ 0 ∷ 0 ∷ 0 ∷ [] ++ big_bytes 4 header.entry_count

abbrev pub header_bytes : FileVersion → Header → List ℕ
header_bytes version header = front_bytes version header ++ flat_map (big_bytes 4) header.page_counts

-- the block is the image of the header
pub record IsHeaderImage (version : FileVersion) (header : Header) (block : List ℕ) : Type 0 where
  pub valid : IsHeader version header
  pub whole : block ≡ sealed (padded CONTENT_LEN (header_bytes version header))
