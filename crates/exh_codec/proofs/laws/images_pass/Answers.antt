use Rattle.exh_codec.proofs.FirstFault.{image_parts}
use Rattle.exh_codec.proofs.ImagesPass.{passes_content}
use Rattle.exh_codec.proofs.PassingImages.{page_from_tests}
use Rattle.exh_codec.proofs.laws.images_pass.Goals as goal

pub returns : goal.returns
returns c version fits pseudo block len small = (
  λ (page, image). let parts = image_parts version pseudo page block image in (parts.1, passes_content version fits pseudo page block parts.0),
  λ passed. page_from_tests version fits pseudo block len small passed,
)
