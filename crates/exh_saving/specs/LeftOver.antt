-- What a killed save may have left beside a path.
use Rattle.std.specs.Prelude.{◌≡◌, ◌⊎◌, IsSomeAnd, Option}
use Rattle.exh_saving.specs.declared.claiming.TheConstants.{UNFINISHED}
use Rattle.exh_saving.specs.declared.found.Found.{Found}
use Rattle.exh_saving.specs.declared.found.Head.{Head}
use Rattle.exh_saving.specs.declared.found.Kind.TheVariants.{Regular}
use Rattle.exh_saving.specs.declared.found.Runner.{Runner}

-- a regular file of one name, of whom the program runs for, or of whose the old file is
pub record IsLeftOver (found : Found) (runner : Option Runner) (old : Option Found) : Type 0 where
  pub regular : found.kind ≡ Regular
  pub alone : found.links ≡ 1
  pub owner : IsSomeAnd runner (λ runner. found.owner ≡ runner.user) ⊎ IsSomeAnd old (λ old. found.owner ≡ old.owner)

-- a file is empty, or begins with the mark of one that isn't finished
abbrev pub IsUnfinished : Head → Type 0
IsUnfinished head = (head.found.size ≡ 0) ⊎ (head.bytes ≡ UNFINISHED)
