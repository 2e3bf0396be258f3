use Rattle.exh_edits.proofs.FileEdits.{page_changes}
use Rattle.exh_edits.proofs.laws.pages_change.Goals as goal

pub returns : goal.returns
returns c = λ file bytes place page is. page_changes c.images_are_blocks.ensures c.walk_blocks_pass.ensures.blocks file bytes is place page
