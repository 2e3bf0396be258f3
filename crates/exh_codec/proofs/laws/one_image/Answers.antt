use Rattle.std.proofs.Common.{refl}
use Rattle.exh_codec.specs.Block.{sealed}
use Rattle.exh_codec.specs.PageImage.{content_of}
use Rattle.exh_codec.proofs.laws.one_image.Goals as goal

pub returns : goal.returns
returns c version pseudo page valid = (sealed (content_of page), record { image = record { valid = valid; whole = refl }; only = λ other image. image.whole })
