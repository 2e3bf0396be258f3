-- What contracts see of the parts of a ledger that nobody has been given.
use Rattle.std.specs.Prelude.{ℕ}

pub record SpareState : Type 0 where
  pub parts : ℕ
  pub amount : ℕ
