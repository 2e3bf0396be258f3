use Rattle.exh_table.specs.Leaves.{leaves_in}
use Rattle.exh_table.proofs.ChangedNames.{changes_keep_names}
use Rattle.exh_table.proofs.laws.changes_keep_names.Goals as goal

pub returns : goal.returns
returns c start ward changes change pseudokey name can is = changes_keep_names (leaves_in start ward) changes change pseudokey name can is
