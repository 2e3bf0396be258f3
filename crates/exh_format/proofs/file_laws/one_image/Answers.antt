use Rattle.std.proofs.Common.{refl}
use Rattle.exh_format.specs.PageFile.{file_bytes}
use Rattle.exh_format.proofs.file_laws.one_image.Goals as goal

pub returns : goal.returns
returns c version file valid = (file_bytes version file, record { valid = valid; whole = refl }, λ other is. is.whole)
