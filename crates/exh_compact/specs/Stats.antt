-- What the numbers of a file are, over what is counted of its pages.
use Rattle.std.specs.Prelude.{◌≡◌, ◌⊎◌, ◌==◌, ◌&&◌, ◌≤◌, ◌*◌, not, ℕ, List, [], length, map, flat_map, count_by, sum_by, nat_le, slice_index, EachIndex, Contains}
use Rattle.std.specs.List.{All}
use Rattle.exh_keyer.specs.declared.any_keyer.AnyKeyer.{AnyKeyer}
use Rattle.exh_prefix.specs.declared.prefix.TheConstants.{LIMIT}
use Rattle.exh_codec.specs.declared.block.TheConstants.{BLOCK_LEN}
use Rattle.exhash.specs.Opened.{OpenedState, settings_in}
use Rattle.exh_ward.specs.WardState.{WardState}
use Rattle.exh_compact.specs.Shape.{shape_of}
use Rattle.exh_compact.specs.declared.page_shape.PageShape.{PageShape}
use Rattle.exh_compact.specs.declared.stats.Stats.{Stats}
use Rattle.exh_compact.specs.declared.ward_counts.WardCounts.{WardCounts}

-- ---- pages

abbrev pub live_count : List PageShape → ℕ
live_count shapes = count_by (λ s. s.is_live) shapes

abbrev pub forward_count : List PageShape → ℕ
forward_count shapes = count_by (λ s. not s.is_live) shapes

abbrev pub record_sum : List PageShape → ℕ
record_sum shapes = sum_by (λ s. s.records) shapes

abbrev pub byte_sum : List PageShape → ℕ
byte_sum shapes = sum_by (λ s. s.bytes) shapes

-- the bytes of their blocks
abbrev pub block_bytes : List PageShape → ℕ
block_bytes shapes = BLOCK_LEN * length shapes

-- the live ones with so many records, and those whose prefix has so many bits
abbrev pub with_records_count : ℕ → List PageShape → ℕ
with_records_count count shapes = count_by (λ s. s.is_live && (s.records == count)) shapes

abbrev pub with_bits_count : ℕ → List PageShape → ℕ
with_bits_count bits shapes = count_by (λ s. s.is_live && (length s.prefix == bits)) shapes

-- the live ones with a prefix of LIMIT bits, and those of them that are full
abbrev pub limit_count : List PageShape → ℕ
limit_count shapes = count_by (λ s. s.is_live && (length s.prefix == LIMIT)) shapes

abbrev pub full_limit_count : ℕ → List PageShape → ℕ
full_limit_count cap shapes = count_by (λ s. s.is_live && (length s.prefix == LIMIT) && nat_le cap s.records) shapes

-- ---- a file

abbrev pub ward_counts_of : List PageShape → WardCounts
ward_counts_of shapes = record { pages = length shapes; records = record_sum shapes }

-- the pages of all wards, ward by ward
abbrev pub shapes_in : List (WardState AnyKeyer) → List PageShape
shapes_in wards = map shape_of (flat_map (λ ward. ward.pages) wards)

pub record AreStatsOf (version : ℕ) (file : OpenedState) (stats : Stats) : Type 0 where
  pub version_is : stats.version ≡ version
  pub settings : stats.settings ≡ settings_in file
  pub records : stats.records ≡ record_sum (shapes_in file.wards)
  pub live : stats.live ≡ live_count (shapes_in file.wards)
  pub forwarding : stats.forwarding ≡ forward_count (shapes_in file.wards)
  pub by_records : EachIndex stats.by_records (λ k. slice_index stats.by_records k ≡ with_records_count k (shapes_in file.wards))
  pub by_bits : EachIndex stats.by_bits (λ k. slice_index stats.by_bits k ≡ with_bits_count k (shapes_in file.wards))
  -- no prefix is longer, and it is that of a page, if it has a bit
  pub longest : All (λ shape. length shape.prefix ≤ length stats.longest) (shapes_in file.wards)
  pub there : (stats.longest ≡ []) ⊎ Contains (map (λ shape. shape.prefix) (shapes_in file.wards)) stats.longest
  pub at_limit : stats.at_limit ≡ limit_count (shapes_in file.wards)
  pub full_at_limit : stats.full_at_limit ≡ full_limit_count file.cap (shapes_in file.wards)
  pub record_bytes : stats.record_bytes ≡ byte_sum (shapes_in file.wards)
  pub page_bytes : stats.page_bytes ≡ block_bytes (shapes_in file.wards)
  pub wards : stats.wards.items ≡ map (λ ward. ward_counts_of (map shape_of ward.pages)) file.wards
