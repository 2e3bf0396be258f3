-- The depth of a table's leaves is one number.
use Rattle.std.proofs.Common.{◌≡◌, ℕ, ◌≤◌, arith}
use Rattle.exh_prefix.specs.declared.prefix.TheConstants.{LIMIT}
use Rattle.exh_table.specs.Table.{TableMap}
use Rattle.exh_table.specs.Leaves.{PrefixSet, leaves_of}
use Rattle.exh_table.specs.Directory.{IsDepth}
use Rattle.exh_table.specs.Below.{depth_of}
use Rattle.exh_table.specs.LeafLemmas.{depth_is}

pub one_depth : (leaves : PrefixSet) (one other : ℕ) → IsDepth leaves one → IsDepth leaves other → one ≡ other
one_depth leaves one other is too = omega (arith, is.greatest too.reached.0 too.reached.1, is.reached.2, too.greatest is.reached.0 is.reached.1, too.reached.2)

-- it is the one that the table's tree has
pub depth_of-is : (table : TableMap) (ward_bits depth : ℕ) → ward_bits ≤ LIMIT → IsDepth (leaves_of table ward_bits) depth → depth ≡ depth_of table ward_bits
unfolding depth_of
depth_of-is table ward_bits depth short is = one_depth (leaves_of table ward_bits) depth _ is (depth_is table ward_bits short)
