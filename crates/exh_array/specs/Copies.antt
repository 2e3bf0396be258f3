-- The copies of a file's directory, and the tables sent between them.
use Rattle.std.specs.Prelude.{ℕ, List}
use Rattle.exh_table.specs.Table.{TableMap}

pub record CopiesState : Type 0 where
  pub ward_bits : ℕ
  -- the table at which each copy begins, and to which it is restarted
  pub start : TableMap
  pub copies : List TableMap
  -- in the order sent
  pub sent : List TableMap
