use Rattle.std.proofs.Common.{◌∙◌}
use Rattle.exh_load.proofs.Over.{join_of_none}
use Rattle.exh_load.proofs.loader.directory_of.Goals as goal

pub returns-clause-table : goal.returns-clause-table
returns-clause-table c = c.in_ok-join_in.ensures.ok ∙ join_of_none c.in_ok-directory.directory.table c.args.table.now c.in_ok-directory.ensures.table
