use Rattle.exh_edits.proofs.EditedBlocks.{block_stands, length-edited, other_stands}
use Rattle.exh_edits.proofs.laws.edited_blocks_stand.Goals as goal

pub returns : goal.returns
returns c = record { block = block_stands; others = λ bytes place block other edit. other_stands bytes place block edit other; length = length-edited }
