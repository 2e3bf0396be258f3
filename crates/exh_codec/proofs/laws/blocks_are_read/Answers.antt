use Rattle.exh_codec.proofs.PageOf.{page_read}
use Rattle.exh_codec.proofs.laws.blocks_are_read.Goals as goal

pub returns : goal.returns
returns c version fits pseudo page block laid = page_read version fits pseudo page block laid
