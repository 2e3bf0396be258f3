use Rattle.std.proofs.Common.{◌-◌, length}
use Rattle.exh_prefix.specs.declared.prefix.TheConstants.{LIMIT}
use Rattle.exh_array.proofs.pointers.Pointers.+point_below.Given as goal

abbrev pub decreases-point_below : goal.decreases-point_below
decreases-point_below l = LIMIT - length l.at.now.prefix
