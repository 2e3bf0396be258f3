use Rattle.exh_versions.proofs.PlacedOneFile.{one_file}
use Rattle.exh_versions.proofs.placed_laws.one_placed_file.Goals as goal

pub returns : goal.returns
returns c bytes one other first second =
    one_file c.images_are_blocks.ensures c.one_page.ensures c.walk_blocks_pass.ensures.blocks c.walk_blocks_pass.ensures.one c.stamped_headers_pass.ensures.one bytes one other first second
