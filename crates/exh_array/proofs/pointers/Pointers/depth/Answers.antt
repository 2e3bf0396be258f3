use Rattle.std.proofs.Common.{◌≡◌, subst}
use Rattle.exh_table.specs.Table.{TableMap}
use Rattle.exh_table.specs.Leaves.{leaves_of}
use Rattle.exh_table.specs.Directory.{IsDepth}
use Rattle.exh_table.specs.Below.{depth_of}
use Rattle.exh_array.specs.Pointers.{PointerArray, IsArrayOf}
use Rattle.exh_array.proofs.Depth.{depth_of-is}
use Rattle.exh_array.proofs.pointers.Pointers.depth.Goals as goal

pub returns-clause-depth : goal.returns-clause-depth
returns-clause-depth c =
    subst (λ (array : PointerArray). (table : TableMap) → IsArrayOf table array → IsDepth (leaves_of table array.ward_bits) c.self.inside.depth) c.self.view_is (λ table is. is.depth)

pub returns-clause-computed : goal.returns-clause-computed
returns-clause-computed c =
    subst (λ (array : PointerArray). (table : TableMap) → IsArrayOf table array → c.self.inside.depth ≡ depth_of table array.ward_bits) c.self.view_is
    (λ table is. depth_of-is table c.self.inside.ward_bits c.self.inside.depth c.self.invariant.ward_bits is.depth)
