use Rattle.exh_array.specs.Pointers.{HasArrayOf}
use Rattle.exh_world.proofs.WorldOfWards.{AreJoined}
use Rattle.exh_world.proofs.world.world_of_wards.joined_tables.Given as goal

-- the table of the wards so far, and its array
abbrev pub invariant-loop-ward : goal.invariant-loop-ward
invariant-loop-ward g l = record {
  joined : AreJoined g.K.Keyer.pseudokey_of l.wards l.ward-index l.directory.table;
  array : HasArrayOf l.ward_bits l.directory;
}
