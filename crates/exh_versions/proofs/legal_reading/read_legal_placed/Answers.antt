use Rattle.exh_versions.proofs.LegalRead.{every}
use Rattle.exh_versions.proofs.legal_reading.read_legal_placed.Goals as goal

pub returns-clause-every : goal.returns-clause-every
returns-clause-every g c file tables bytes knows small is =
    every c.one_placed_file.ensures c.placed_files_pass.ensures.pass c.placed_files_pass.ensures.no_fault c.legal_files_pass.ensures c.cells_and_tables_tell.ensures.tables _ g.W.PageList.pages c.read_found.result c.read_found.ensures.legal c.read_found.ensures.fault file tables bytes knows small is
