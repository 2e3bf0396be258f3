-- The greater of two values is their join, where only equal values are level.
use Rattle.std.proofs.Common.{◌≡◌, Bool, true, false, cond, IsTrue, sym, ap, ◌∙◌, refl, subst}
use Rattle.std.specs.declared.cmp.Ordering.{Ordering}
use Rattle.std.specs.declared.cmp.Ordering.TheVariants.{Less, Equal, Greater}
use Rattle.std.specs.Ordering.{is_le, is_lt, is_gt, ordering_reverse}
use Rattle.std.specs.Cmp.{IsTotalOrder}
use Rattle.std.specs.FinMap.{IsAntisymmetric}
use Rattle.std.proofs.lemmas.Bool.{true≢false}
use Rattle.std.proofs.lemmas.Cmp.{upto, tied_itself}
use Rattle.exh_join.specs.JoinLaws.{IsPartialOrder, JoinLaws}
use Rattle.exh_join.specs.LawsLemmas.{join_laws}
use Rattle.exh_join.specs.Greater.{IsUpTo, greater}

le_not_gt : (r : Ordering) → IsTrue (is_le r) → is_gt r ≡ false
le_not_gt Less h = refl
le_not_gt Equal h = refl
le_not_gt Greater h = absurd (true≢false (sym h))

not_gt_le : (r : Ordering) → is_gt r ≡ false → IsTrue (is_le r)
not_gt_le Less h = refl
not_gt_le Equal h = refl
not_gt_le Greater h = absurd (true≢false h)

-- at most each other: level
both_le : (r : Ordering) → IsTrue (is_le r) → IsTrue (is_le (ordering_reverse r)) → r ≡ Equal
both_le Less h k = absurd (true≢false (sym k))
both_le Equal h k = refl
both_le Greater h k = absurd (true≢false (sym h))

module _ {V : Type 0} {order : V → V → Ordering} (total : IsTotalOrder order) (exact : IsAntisymmetric order) where
  up_to_itself : (x : V) → IsUpTo order x x
  up_to_itself x = subst (λ r. IsTrue (is_le r)) (sym (tied_itself total x)) refl

  partial : IsPartialOrder (IsUpTo order)
  partial = record {
    reflexive = up_to_itself;
    antisymmetric = λ x y h k. exact x y (both_le (order x y) h (subst (λ r. IsTrue (is_le r)) (total.antisymm y x) k));
    transitive = λ x y z h k. not_gt_le (order x z) (upto total x y z (le_not_gt (order x y) h) (le_not_gt (order y z) k));
  }

  first_by : (x y : V) (r : Ordering) → order x y ≡ r → IsUpTo order x (cond (is_lt r) y x)
  first_by x y Less is = subst (λ r. IsTrue (is_le r)) (sym is) refl
  first_by x y Equal is = up_to_itself x
  first_by x y Greater is = up_to_itself x

  second_by : (x y : V) (r : Ordering) → order x y ≡ r → IsUpTo order y (cond (is_lt r) y x)
  second_by x y Less is = up_to_itself y
  second_by x y Equal is = subst (λ r. IsTrue (is_le r)) (sym (total.antisymm y x ∙ ap ordering_reverse is)) refl
  second_by x y Greater is = subst (λ r. IsTrue (is_le r)) (sym (total.antisymm y x ∙ ap ordering_reverse is)) refl

  least_by : (x y z : V) (second : Bool) → IsUpTo order x z → IsUpTo order y z → IsUpTo order (cond second y x) z
  least_by x y z true h k = k
  least_by x y z false h k = h

  pub greater_laws : JoinLaws (IsUpTo order) (greater order)
  greater_laws = join_laws partial record {
    above_first = λ x y. first_by x y (order x y) refl;
    above_second = λ x y. second_by x y (order x y) refl;
    least = λ x y z. least_by x y z (is_lt (order x y));
  }
