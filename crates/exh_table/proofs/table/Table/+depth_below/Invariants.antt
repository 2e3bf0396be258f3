use Rattle.std.proofs.Common.{◌-◌, length}
use Rattle.exh_prefix.specs.declared.prefix.TheConstants.{LIMIT}
use Rattle.exh_prefix.specs.declared.prefix.TheConstants.{LIMIT}
use Rattle.exh_table.proofs.table.Table.+depth_below.Given as goal

abbrev pub decreases-depth_below : goal.decreases-depth_below
decreases-depth_below l = LIMIT - length l.at.now.prefix
