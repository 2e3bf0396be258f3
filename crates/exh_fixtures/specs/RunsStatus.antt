-- The program's exit status.
use Rattle.std.specs.Prelude.{ℕ}
use Rattle.exh_fixtures.specs.declared.status.Status.{Status}
use Rattle.exh_fixtures.specs.declared.status.Status.TheVariants.{Differed, Same, WrongWords}

abbrev pub code_of : Status → ℕ
code_of Same = 0
code_of Differed = 1
code_of WrongWords = 2
