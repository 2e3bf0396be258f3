use Rattle.exh_edits.proofs.FileEdits.{page_added}
use Rattle.exh_edits.proofs.laws.pages_are_added.Goals as goal

pub returns : goal.returns
returns c = λ file bytes ward page cell is. page_added c.images_are_blocks.ensures c.walk_blocks_pass.ensures.blocks file bytes is ward page cell
