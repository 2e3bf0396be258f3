-- The join of values that a total order puts into one row: the greater of two.
use Rattle.std.specs.Prelude.{cond, IsTrue}
use Rattle.std.specs.declared.cmp.Ordering.{Ordering}
use Rattle.std.specs.Ordering.{is_le, is_lt}

-- the value stands before the other or level with it
abbrev pub IsUpTo : {V : Type 0} → (V → V → Ordering) → V → V → Type 0
IsUpTo order x y = IsTrue (is_le (order x y))

-- the value that stands later
abbrev pub greater : {V : Type 0} → (V → V → Ordering) → V → V → V
greater order x y = cond (is_lt (order x y)) y x
