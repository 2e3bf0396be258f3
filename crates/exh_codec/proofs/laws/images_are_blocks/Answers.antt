use Rattle.exh_codec.specs.BlockLemmas.{length-sealed}
use Rattle.exh_codec.specs.PageImage.{content_of}
use Rattle.exh_codec.proofs.UsedBytes.{length-content_of}
use Rattle.exh_codec.proofs.laws.images_are_blocks.Goals as goal

pub returns : goal.returns
returns c version pseudo page block image = length-sealed block (content_of page) (length-content_of version pseudo page image.valid) image.whole
