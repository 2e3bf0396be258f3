-- Two values side by side, each with its own order and join.
use Rattle.exh_join.specs.JoinLaws.{JoinLaws}
use Rattle.exh_join.specs.LawsLemmas.{join_laws}
use Rattle.exh_join.specs.declared.pair_of.PairOf.{PairOf}

-- each half is at most the other's
abbrev pub IsPairAtMost : {A B : Type 0} → (A → A → Type 0) → (B → B → Type 0) → PairOf A B → PairOf A B → Type 0
IsPairAtMost IsAtMostA IsAtMostB x y = IsAtMostA x.first y.first × IsAtMostB x.second y.second

-- the joins of both halves
abbrev pub pair_join : {A B : Type 0} → (A → A → A) → (B → B → B) → PairOf A B → PairOf A B → PairOf A B
pair_join joinA joinB x y = record { first = joinA x.first y.first; second = joinB x.second y.second }

pub pair_laws : {A B : Type 0} {IsAtMostA : A → A → Type 0} {joinA : A → A → A} {IsAtMostB : B → B → Type 0} {joinB : B → B → B}
    → JoinLaws IsAtMostA joinA → JoinLaws IsAtMostB joinB → JoinLaws (IsPairAtMost IsAtMostA IsAtMostB) (pair_join joinA joinB)
pair_laws a b = join_laws
    record {
      reflexive = λ x. (a.order.reflexive x.first, b.order.reflexive x.second);
      antisymmetric = λ x y h k. λ i. record { first = a.order.antisymmetric x.first y.first h.0 k.0 i; second = b.order.antisymmetric x.second y.second h.1 k.1 i };
      transitive = λ x y z h k. (a.order.transitive x.first y.first z.first h.0 k.0, b.order.transitive x.second y.second z.second h.1 k.1);
    }
    record {
      above_first = λ x y. (a.bound.above_first x.first y.first, b.bound.above_first x.second y.second);
      above_second = λ x y. (a.bound.above_second x.first y.first, b.bound.above_second x.second y.second);
      least = λ x y z h k. (a.bound.least x.first y.first z.first h.0 k.0, b.bound.least x.second y.second z.second h.1 k.1);
    }
