use Rattle.exh_format.proofs.LegalRead.{every}
use Rattle.exh_format.proofs.legal_reading.read_legal_file.Goals as goal

pub returns-clause-every : goal.returns-clause-every
returns-clause-every g c file bytes knows small is =
    every c.one_file.ensures c.files_pass.ensures.pass c.files_pass.ensures.no_fault c.legal_files_pass.ensures _ g.W.PageList.pages c.read_found.result c.read_found.ensures.legal c.read_found.ensures.fault file bytes knows small is
