-- Tests in their order, and the first that fails.
use Rattle.std.specs.Prelude.{◌≡◌, List, ◌∷◌, ◌++◌}
use Rattle.std.specs.List.{AllByRecursion}

-- the test is the first of these that fails
pub record IsFirstFailing {Test : Type 0} (Passes : Test → Type 0) (tests : List Test) (test : Test) : Type 0 where
  pub before : List Test
  pub after : List Test
  pub stands : tests ≡ before ++ test ∷ after
  pub passed : AllByRecursion Passes before
  pub fails : Passes test → ⊥
