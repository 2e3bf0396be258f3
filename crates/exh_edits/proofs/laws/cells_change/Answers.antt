use Rattle.exh_edits.proofs.FileEdits.{cell_changes}
use Rattle.exh_edits.proofs.laws.cells_change.Goals as goal

pub returns : goal.returns
returns c = λ file bytes place cell is. cell_changes c.images_are_blocks.ensures c.walk_blocks_pass.ensures.blocks file bytes is place cell
