-- The least value that is at least each of a list, one value after the other.
use Rattle.std.proofs.Common.{◌≡◌, inl, inr, ℕ, ◌+◌, ◌<◌, List, [], ◌∷◌, ◌++◌, length, take, get_or, add-one, sym, ap, ◌∙◌, subst, arith}
use Rattle.std.specs.List.{Contains}
use Rattle.std.proofs.lemmas.List.{take_more}
use Rattle.std.proofs.lemmas.List.Elements.{Contains-push, Contains-push_cases, Contains-append_left}
use Rattle.exh_join.specs.JoinLaws.{JoinLaws}
use Rattle.exh_join.specs.Joined.{IsLeastAboveEach}

no_member : {V : Type 0} (y : V) → Contains [] y → ⊥
no_member y member = omega (arith, member.1)

module _ {V : Type 0} {IsAtMost : V → V → Type 0} {join : V → V → V} (laws : JoinLaws IsAtMost join) where
  pub least_of_one : (x : V) → IsLeastAboveEach IsAtMost (x ∷ []) x
  least_of_one x = record {
    above = λ y is. elim (Contains-push_cases [] x y is) [ inl none ↦ absurd (no_member y none) | inr same ↦ subst (λ y. IsAtMost y x) same (laws.order.reflexive x) ];
    least = λ other above. above x (Contains-push [] x);
  }

  pub least-push : (xs : List V) (bound x : V) → IsLeastAboveEach IsAtMost xs bound → IsLeastAboveEach IsAtMost (xs ++ x ∷ []) (join bound x)
  least-push xs bound x is = record {
    above = λ y member. elim (Contains-push_cases xs x y member) [
      | inl old ↦ laws.order.transitive y bound (join bound x) (is.above y old) (laws.bound.above_first bound x)
      | inr same ↦ subst (λ y. IsAtMost y (join bound x)) same (laws.bound.above_second bound x)
    ];
    least = λ other above. laws.bound.least bound x other (is.least other (λ y old. above y (Contains-append_left xs (x ∷ []) y old))) (above x (Contains-push xs x));
  }

  -- a list's first value is the least at least each of its first one,
  pub least_of_first : (values rest : List V) (first bound : V) → values ≡ first ∷ rest → bound ≡ first → IsLeastAboveEach IsAtMost (take 1 values) bound
  least_of_first values rest first bound list same =
      subst (λ values. IsLeastAboveEach IsAtMost (take 1 values) bound) (sym list) (subst (λ first. IsLeastAboveEach IsAtMost (first ∷ []) bound) same (least_of_one bound))

  -- and its join with the next value is that of one more
  pub least_of_next : (values rest : List V) (first bound item joined : V) (i : ℕ) → values ≡ first ∷ rest → i < length rest → item ≡ get_or rest i item → joined ≡ join bound item
      → IsLeastAboveEach IsAtMost (take (i + 1) values) bound → IsLeastAboveEach IsAtMost (take (i + 1 + 1) values) joined
  least_of_next values rest first bound item joined i list within read is least =
      let read_here : get_or values (i + 1) item ≡ item = ap (λ values. get_or values (i + 1) item) list ∙ ap (λ n. get_or (first ∷ rest) n item) (add-one i) ∙ sym read in
      let room : i + 1 < length values = omega (arith, within, ap length list) in
      let more : take (i + 1 + 1) values ≡ take (i + 1) values ++ item ∷ [] = take_more values (i + 1) item room ∙ ap (λ x. take (i + 1) values ++ x ∷ []) read_here in
      subst (λ xs. IsLeastAboveEach IsAtMost xs joined) (sym more) (subst (λ v. IsLeastAboveEach IsAtMost (take (i + 1) values ++ item ∷ []) v) (sym is) (least-push (take (i + 1) values) bound item least))
