use Rattle.exh_edits.proofs.Few.{few_read}
use Rattle.exh_edits.proofs.InPlaced.{every}
use Rattle.exh_edits.proofs.finding.find_placed.Goals as goal

pub returns-clause-few : goal.returns-clause-few
returns-clause-few g c before heads = few_read _ _ _ _ _ (c.find_on_way.ensures.found before heads) (c.find_on_way.ensures.refused before heads)

pub returns-clause-legal : goal.returns-clause-legal
returns-clause-legal g c before heads =
    every (record {
      one_page = c.one_page.ensures;
      pages_pass = c.images_pass.ensures;
      page_blocks = c.images_are_blocks.ensures;
      one_header = c.stamped_headers_pass.ensures.one;
      headers_pass = c.stamped_headers_pass.ensures.pass;
      one_walk = c.walk_blocks_pass.ensures.one;
      walks_pass = c.walk_blocks_pass.ensures.pass;
      walk_blocks = c.walk_blocks_pass.ensures.blocks;
      slots = c.slots_are_entries.ensures.slots;
      homes = c.walks_name_homes.ensures;
    }) _ _ _ _ _ (c.find_on_way.ensures.found before heads) (c.find_on_way.ensures.refused before heads)
