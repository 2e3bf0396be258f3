use Rattle.exh_edits.proofs.FileEdits.{header_changes}
use Rattle.exh_edits.proofs.laws.headers_change.Goals as goal

pub returns : goal.returns
returns c = λ file bytes header is. header_changes c.images_are_blocks.ensures c.walk_blocks_pass.ensures.blocks file bytes is header
