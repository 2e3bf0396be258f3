use Rattle.exh_edits.proofs.InPlaced.{every_home}
use Rattle.exh_edits.proofs.homing.find_home.Goals as goal

pub returns-clause-legal : goal.returns-clause-legal
returns-clause-legal g c =
    every_home (record {
      one_page = c.one_page.ensures;
      pages_pass = c.images_pass.ensures;
      page_blocks = c.images_are_blocks.ensures;
      one_header = c.stamped_headers_pass.ensures.one;
      headers_pass = c.stamped_headers_pass.ensures.pass;
      one_walk = c.walk_blocks_pass.ensures.one;
      walks_pass = c.walk_blocks_pass.ensures.pass;
      walk_blocks = c.walk_blocks_pass.ensures.blocks;
      slots = c.slots_are_entries.ensures.slots;
      homes = c.walks_name_homes.ensures;
    }) _ _ _ _ _ c.ranges.pseudokey.fits _ c.come_home.ensures.ok c.come_home.ensures.err
