-- The laws of a join from the fewest that give them all.
use Rattle.exh_join.specs.JoinLaws.{IsPartialOrder, IsLeastAboveBoth, JoinLaws}

module _ {V : Type 0} {IsAtMost : V → V → Type 0} {join : V → V → V} (order : IsPartialOrder IsAtMost) (bound : IsLeastAboveBoth IsAtMost join) where
  swapped : (x y : V) → IsAtMost (join x y) (join y x)
  swapped x y = bound.least x y (join y x) (bound.above_second y x) (bound.above_first y x)

  -- the first of three, the second and the third are at most their join to the right
  to_right : (x y z : V) → IsAtMost (join (join x y) z) (join x (join y z))
  to_right x y z =
      let all = join x (join y z) in
      let rest = bound.above_second x (join y z) in
      let second : IsAtMost y all = order.transitive y (join y z) all (bound.above_first y z) rest in
      let third : IsAtMost z all = order.transitive z (join y z) all (bound.above_second y z) rest in
      bound.least (join x y) z all (bound.least x y all (bound.above_first x (join y z)) second) third

  to_left : (x y z : V) → IsAtMost (join x (join y z)) (join (join x y) z)
  to_left x y z =
      let all = join (join x y) z in
      let front = bound.above_first (join x y) z in
      let first : IsAtMost x all = order.transitive x (join x y) all (bound.above_first x y) front in
      let second : IsAtMost y all = order.transitive y (join x y) all (bound.above_second x y) front in
      bound.least x (join y z) all first (bound.least y z all second (bound.above_second (join x y) z))

  pub join_laws : JoinLaws IsAtMost join
  join_laws = record {
    order = order;
    bound = bound;
    commutative = λ x y. order.antisymmetric _ _ (swapped x y) (swapped y x);
    associative = λ x y z. order.antisymmetric _ _ (to_right x y z) (to_left x y z);
    idempotent = λ x. order.antisymmetric _ _ (bound.least x x x (order.reflexive x) (order.reflexive x)) (bound.above_first x x);
  }
