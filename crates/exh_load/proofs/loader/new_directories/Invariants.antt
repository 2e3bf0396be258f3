use Rattle.std.proofs.Common.{ℕ}
use Rattle.exh_array.specs.Pointers.{DirectoryState}
use Rattle.exh_load.specs.Loader.{AreEach, IsEmptyDirectory}
use Rattle.exh_load.proofs.loader.new_directories.Given as goal

-- as many directories of no entry
abbrev pub invariant-loop-number : goal.invariant-loop-number
invariant-loop-number l = AreEach (λ (number : ℕ) (directory : DirectoryState). IsEmptyDirectory l.ward_bits directory) l._number l.directories.items
