use Rattle.exh_load.specs.Loader.{AreEach, IsDirectoryAt}
use Rattle.exh_load.proofs.loader.directories_of.Given as goal

-- a directory of each ward so far
abbrev pub invariant-loop-ward : goal.invariant-loop-ward
invariant-loop-ward g l = AreEach (IsDirectoryAt l.ward_bits l.wards) l.ward-index l.directories.items
