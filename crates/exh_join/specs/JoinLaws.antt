-- What an order and a join are, for any values.
use Rattle.std.specs.Prelude.{◌≡◌}

-- a partial order: each value is at most itself, two that are at most each other are one, and what is at most a
-- value is at most all that it is at most
pub record IsPartialOrder {V : Type 0} (IsAtMost : V → V → Type 0) : Type 0 where
  pub reflexive : (x : V) → IsAtMost x x
  pub antisymmetric : (x y : V) → IsAtMost x y → IsAtMost y x → x ≡ y
  pub transitive : (x y z : V) → IsAtMost x y → IsAtMost y z → IsAtMost x z

-- the join of two values is the least of the values that are at least both
pub record IsLeastAboveBoth {V : Type 0} (IsAtMost : V → V → Type 0) (join : V → V → V) : Type 0 where
  pub above_first : (x y : V) → IsAtMost x (join x y)
  pub above_second : (x y : V) → IsAtMost y (join x y)
  pub least : (x y z : V) → IsAtMost x z → IsAtMost y z → IsAtMost (join x y) z

-- what each type with a join proves, for all values
pub record JoinLaws {V : Type 0} (IsAtMost : V → V → Type 0) (join : V → V → V) : Type 0 where
  pub order : IsPartialOrder IsAtMost
  pub bound : IsLeastAboveBoth IsAtMost join
  pub commutative : (x y : V) → join x y ≡ join y x
  pub associative : (x y z : V) → join (join x y) z ≡ join x (join y z)
  pub idempotent : (x : V) → join x x ≡ x
