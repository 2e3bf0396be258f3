use Rattle.exh_codec.proofs.FirstFault.{image_parts, image_from_parts}
use Rattle.exh_codec.proofs.laws.images_are_sealed.Goals as goal

pub returns : goal.returns
returns c version pseudo page block = (image_parts version pseudo page block, λ (laid, is_sealed). image_from_parts version pseudo page block laid is_sealed)
