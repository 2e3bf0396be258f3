use Rattle.exh_edits.proofs.Standing.{blocks_counted, header_stands, page_stands, walk_stands}
use Rattle.exh_edits.proofs.laws.blocks_stand.Goals as goal

pub returns : goal.returns
returns c =
    let images = c.images_are_blocks.ensures in
    let walks = c.walk_blocks_pass.ensures.blocks in
    record {
      headers = header_stands images walks;
      pages = λ file bytes place page is. page_stands images walks file bytes place page is;
      walk_blocks = λ file bytes group is. walk_stands images walks file bytes group is;
      count = blocks_counted images walks;
    }
