-- A replica's value is the least that is at least all it was given.
use Rattle.std.proofs.Common.{inl, inr, [], ◌∷◌, sym, subst, arith}
use Rattle.std.specs.List.{Contains}
use Rattle.std.proofs.lemmas.List.Elements.{Contains-push, Contains-push_cases, Contains-append_left, Contains-append_right, Contains-append_cases}
use Rattle.exh_join.specs.JoinLaws.{JoinLaws}
use Rattle.exh_join.specs.Joined.{IsAboveEach}
use Rattle.exh_join.specs.Replicas.{History, Began, Took, Combined, value_after, taken, AllBegan, ReplicasAgree}

module _ {V : Type 0} {IsAtMost : V → V → Type 0} {join : V → V → V} (laws : JoinLaws IsAtMost join) where
  -- every value taken is at most the replica's
  above_taken : (history : History V) → IsAboveEach IsAtMost (taken history) (value_after join history)
  above_taken (Began start) x member = absurd (omega (arith, member.1))
  above_taken (Took before value) x member =
      let old = value_after join before in
      elim (Contains-push_cases (taken before) value x member) [
        | inl earlier ↦ laws.order.transitive x old (join old value) (above_taken before x earlier) (laws.bound.above_first old value)
        | inr same ↦ subst (λ x. IsAtMost x (join old value)) same (laws.bound.above_second old value)
      ]
  above_taken (Combined before other) x member =
      let one = value_after join before in
      let two = value_after join other in
      elim (Contains-append_cases (taken before) (taken other) x member) [
        | inl here ↦ laws.order.transitive x one (join one two) (above_taken before x here) (laws.bound.above_first one two)
        | inr there ↦ laws.order.transitive x two (join one two) (above_taken other x there) (laws.bound.above_second one two)
      ]

  -- and so is the value that the replica began with
  above_start : (start : V) (history : History V) → AllBegan start history → IsAtMost start (value_after join history)
  above_start start (Began value) began = subst (IsAtMost start) (sym began) (laws.order.reflexive start)
  above_start start (Took before value) began =
      let old = value_after join before in laws.order.transitive start old (join old value) (above_start start before began) (laws.bound.above_first old value)
  above_start start (Combined before other) began =
      let one = value_after join before in
      let two = value_after join other in
      laws.order.transitive start one (join one two) (above_start start before began.0) (laws.bound.above_first one two)

  -- what is at least the start and all that was taken is at least the replica's value
  least_of_history : (start : V) (history : History V) (bound : V) → AllBegan start history → IsAtMost start bound → IsAboveEach IsAtMost (taken history) bound → IsAtMost (value_after join history) bound
  least_of_history start (Began value) bound began from above = subst (λ v. IsAtMost v bound) (sym began) from
  least_of_history start (Took before value) bound began from above =
      laws.bound.least (value_after join before) value bound
      (least_of_history start before bound began from (λ x earlier. above x (Contains-append_left (taken before) (value ∷ []) x earlier)))
      (above value (Contains-push (taken before) value))
  least_of_history start (Combined before other) bound began from above =
      laws.bound.least (value_after join before) (value_after join other) bound
      (least_of_history start before bound began.0 from (λ x here. above x (Contains-append_left (taken before) (taken other) x here)))
      (least_of_history start other bound began.1 from (λ x there. above x (Contains-append_right (taken before) (taken other) x there)))

  at_most_other : (start : V) (one other : History V) → AllBegan start one → AllBegan start other → ((x : V) → Contains (taken one) x → Contains (taken other) x) → IsAtMost (value_after join one) (value_after join other)
  at_most_other start one other one_began other_began members =
      least_of_history start one (value_after join other) one_began (above_start start other other_began) (λ x member. above_taken other x (members x member))

  pub replicas_agree : ReplicasAgree join
  replicas_agree start one other one_began other_began same =
      laws.order.antisymmetric (value_after join one) (value_after join other)
      (at_most_other start one other one_began other_began (λ x. (same x).0))
      (at_most_other start other one other_began one_began (λ x. (same x).1))
