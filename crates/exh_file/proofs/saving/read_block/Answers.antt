use Rattle.exh_format.specs.PageFile.{page_block}
use Rattle.exh_file.proofs.saving.read_block.Goals as goal

pub returns-in-Ok-clause-block : goal.returns-in-Ok-clause-block
unfolding page_block
returns-in-Ok-clause-block g c = c.in-Ok.ensures.block
