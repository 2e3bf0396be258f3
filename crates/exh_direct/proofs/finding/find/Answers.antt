use Rattle.exh_direct.proofs.InFile.{every}
use Rattle.exh_direct.proofs.ReadOnce.{once_read}
use Rattle.exh_direct.proofs.finding.find.Goals as goal

pub returns-clause-every : goal.returns-clause-every
returns-clause-every g c before heads =
    every (record {
      one_page = c.one_page.ensures;
      pages_pass = c.images_pass.ensures;
      page_blocks = c.images_are_blocks.ensures;
      one_header = c.one_value.ensures.headers;
      one_table = c.one_value.ensures.tables;
      headers_pass = c.images_pass-2.ensures.headers;
      tables_pass = c.images_pass-2.ensures.tables;
      header_blocks = c.images_are_blocks-2.ensures.headers;
      table_blocks = c.images_are_blocks-2.ensures.tables;
      walks = c.walks_name_homes.ensures;
    }) _ _ _ _ _ _ (c.find_on_way.ensures.found before heads) (c.find_on_way.ensures.refused before heads)

pub returns-clause-once : goal.returns-clause-once
returns-clause-once g c before heads = once_read _ _ _ _ _ _ (c.find_on_way.ensures.found before heads) (c.find_on_way.ensures.refused before heads)
