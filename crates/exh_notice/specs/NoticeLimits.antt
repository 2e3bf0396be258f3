-- Constants of the code, as definitions, so that a crate above can pass them on.
use Rattle.std.specs.Prelude.{ℕ}
use Rattle.exh_notice.specs.declared.entry_image.TheConstants.{ENTRY_IMAGE_LEN as entry_image_len}

abbrev pub ENTRY_IMAGE_LEN : ℕ
ENTRY_IMAGE_LEN = entry_image_len
