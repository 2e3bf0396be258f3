-- Versions of the page file: the number in the header, and how prefixes stand in the images.
use Rattle.std.specs.Prelude.{ℕ, ◌^◌, ◌<◌, List, cond, nat_eq}
use Rattle.byteorder.specs.Endian.{big_from}
use Rattle.exh_prefix.specs.declared.version.Version.{Version as KnownVersion}
use Rattle.exh_prefix.specs.declared.version.Version.TheVariants.{First, Second}
use Rattle.exh_prefix.specs.declared.version.TheConstants.{WRITTEN}
use Rattle.exh_prefix.specs.Layout.{layout}
use Rattle.exh_prefix.specs.Version.{Version, Fits}

pub record FileVersion : Type 0 where
  pub number : ℕ
  pub images : Version

-- the number of a version that the code knows, and the version with it
abbrev pub number_of_version : KnownVersion → ℕ
number_of_version First = 1
number_of_version Second = 2

abbrev pub file_version : KnownVersion → FileVersion
file_version version = record { number = number_of_version version; images = layout version }

-- the version of the files that are written
abbrev pub written_format : FileVersion
written_format = file_version WRITTEN

-- the version that a file's bytes say: the first where its number stands in them, else the second, which then asks for its own
abbrev pub version_of : List ℕ → KnownVersion
version_of bytes = cond (nat_eq (big_from 8 2 bytes) 1) First Second

abbrev pub format_of : List ℕ → FileVersion
format_of bytes = file_version (version_of bytes)

-- the number has room in two bytes, a prefix in four, and how many prefixes there are in four
pub record FitsFile (version : FileVersion) : Type 0 where
  pub number : version.number < 2 ^ 16
  pub limit : version.images.limit < 32
  pub images : Fits 4 version.images
