-- Versions of the page file, in which a prefix may have other lengths and stands in other numbers of bytes.
use Rattle.std.specs.Prelude.{ℕ, ◌*◌, ◌-◌, ◌^◌, ◌≤◌}
use Rattle.exh_prefix.specs.declared.prefix.TheConstants.{LIMIT}

-- the greatest length of a prefix, and how many bytes a prefix or low bound has in an image
pub record Version : Type 0 where
  pub limit : ℕ
  pub bytes : ℕ

abbrev pub first_version : Version
first_version = record { limit = 16; bytes = 2 }

-- every prefix that there is
abbrev pub second_version : Version
second_version = record { limit = LIMIT; bytes = 4 }

-- prefixes of up to 32 bits in four bytes: in each version that `Fits 4`, an image of a prefix that it may have is as in this one
abbrev pub four_bytes : Version
four_bytes = record { limit = 32; bytes = 4 }

-- the bytes hold every prefix, and there is room for them in an image
pub record Fits (room : ℕ) (version : Version) : Type 0 where
  pub limit : version.limit ≤ 8 * version.bytes
  pub bytes : version.bytes ≤ room

-- the low bound whose highest bits are those of such bytes: these bits, then zeros to 64
abbrev pub field_low : Version → ℕ → ℕ
field_low version field = field * 2 ^ (64 - 8 * version.bytes)
