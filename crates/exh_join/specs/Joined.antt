-- The join of many values: the least value that is at least each.
use Rattle.std.specs.Prelude.{List, Contains}

-- the value is at least each of the list
abbrev pub IsAboveEach : {V : Type 0} → (V → V → Type 0) → List V → V → Type 0
IsAboveEach {V} IsAtMost values bound = (x : V) → Contains values x → IsAtMost x bound

-- and at most every value that is
pub record IsLeastAboveEach {V : Type 0} (IsAtMost : V → V → Type 0) (values : List V) (bound : V) : Type 0 where
  pub above : IsAboveEach IsAtMost values bound
  pub least : (other : V) → IsAboveEach IsAtMost values other → IsAtMost bound other
