use Rattle.exh_format.proofs.SameBlocks.{same_blocks}
use Rattle.exh_format.proofs.file_laws.same_blocks.Goals as goal

pub returns : goal.returns
returns c one other fits other_fits file first second = same_blocks one other fits other_fits file first second
