-- The directory of a ward that pairs are put into.
use Rattle.std.specs.Prelude.{◌≡◌}
use Rattle.exh_array.specs.Pointers.{DirectoryState}
use Rattle.exh_ward.specs.WardState.{WardState}

-- the directory was told of all the ward's notices, and of no others
pub record IsDirectoryOf {K : Type 0} (ward : WardState K) (directory : DirectoryState) : Type 0 where
  pub table : directory.table ≡ ward.table
  pub bits : directory.pointers.ward_bits ≡ ward.ward_bits
