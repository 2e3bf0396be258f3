use Rattle.exh_versions.proofs.PlacedPlain.{one_legal}
use Rattle.exh_versions.proofs.placed_laws.one_legal_placed.Goals as goal

pub returns : goal.returns
returns c one other tables first second header pages legal other_legal =
    one_legal c.legal_files_pass.ensures c.cells_and_tables_tell.ensures.cells one other tables first second header pages legal other_legal
