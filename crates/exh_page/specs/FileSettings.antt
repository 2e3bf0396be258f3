-- The ranges of a file's settings, and when two files have the same.
use Rattle.std.specs.Prelude.{◌==◌, ◌&&◌, ◌≤◌, Bool}
use Rattle.exh_keyer.specs.declared.any_keyer.AnyKeyer.{AnyKeyer}
use Rattle.exh_page.specs.declared.page.TheConstants.{CAP_LIMIT}
use Rattle.exh_prefix.specs.declared.prefix.TheConstants.{WARD_BITS_LIMIT}
use Rattle.exh_page.specs.declared.file_settings.FileSettings.{FileSettings}
use Rattle.exh_page.specs.Keyers.{is_same_keyer}

-- a page has room for a record at least, and neither is above its limit
pub record AreInRange {K : Type 0} (settings : FileSettings K) : Type 0 where
  pub some : 1 ≤ settings.cap
  pub most : settings.cap ≤ CAP_LIMIT
  pub bits : settings.ward_bits ≤ WARD_BITS_LIMIT

abbrev pub are_same : FileSettings AnyKeyer → FileSettings AnyKeyer → Bool
are_same one other = (one.cap == other.cap) && (one.ward_bits == other.ward_bits) && is_same_keyer one.keyer other.keyer
