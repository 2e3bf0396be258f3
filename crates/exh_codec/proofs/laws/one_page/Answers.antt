use Rattle.exh_codec.proofs.FirstFault.{image_parts}
use Rattle.exh_codec.proofs.ImagesPass.{one_page_laid}
use Rattle.exh_codec.proofs.laws.one_page.Goals as goal

pub returns : goal.returns
returns c version fits pseudo block one other first second = one_page_laid version fits pseudo block one other (image_parts version pseudo one block first).0 (image_parts version pseudo other block second).0
