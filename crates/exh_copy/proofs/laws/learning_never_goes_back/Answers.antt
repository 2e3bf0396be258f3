use Rattle.std.proofs.Common.{◌≡◌, ◌≤◌, List, [], ◌∷◌, ◌++◌, length, inl, inr, sym, ◌∙◌, subst, arith}
use Rattle.std.proofs.lemmas.Bool.{cases_Bool, cond-true, cond-false}
use Rattle.std.proofs.lemmas.Bool.Decides.{nat_tests}
use Rattle.std.specs.Prelude.{nat_lt}
use Rattle.exh_copy.specs.AdditionLemmas.{longer_up}
use Rattle.exh_copy.specs.declared.addition.Addition.{Addition}
use Rattle.exh_copy.specs.Additions.{BeginsWith, longest}
use Rattle.exh_copy.proofs.Keeps.{begins_empty, begins_itself}
use Rattle.exh_copy.proofs.laws.learning_never_goes_back.Goals as goal

same_first : (one other : Addition) (xs ys : List Addition) → one ∷ xs ≡ other ∷ ys → one ≡ other
same_first one other xs ys same = cc

same_rest : (one other : Addition) (xs ys : List Addition) → one ∷ xs ≡ other ∷ ys → xs ≡ ys
same_rest one other xs ys same = cc

-- of two beginnings of one list the one that is as long or longer begins with the other
longer_begins : (held told more rest : List Addition) → held ++ more ≡ told ++ rest → length held ≤ length told → BeginsWith told held
longer_begins [] told more rest same long = begins_empty told
longer_begins (one ∷ held) [] more rest same long = absurd (omega (arith, long))
longer_begins (one ∷ held) (other ∷ told) more rest same long =
    let inner = longer_begins held told more rest (same_rest one other (held ++ more) (told ++ rest) same) (omega (arith, long)) in
    let first = same_first one other (held ++ more) (told ++ rest) same in (
      inner.0,
      let tail : told ≡ held ++ inner.0 = inner.1 in cc,
    )

keeps : (list held told : List Addition) → BeginsWith list held → BeginsWith list told → BeginsWith (longest held told) held
keeps list held told holds tells =
    elim (cases_Bool (nat_lt (length told) (length held))) [
      | inl less ↦ subst (λ now. BeginsWith now held) (sym (cond-true (nat_lt (length told) (length held)) held told less)) (begins_itself held)
      | inr more ↦
          let long : length held ≤ length told = grind (arith, nat_tests, more) in
          subst (λ now. BeginsWith now held) (sym (cond-false (nat_lt (length told) (length held)) held told more)) (longer_begins held told holds.0 tells.0 (sym holds.1 ∙ tells.1) long)
    ]

pub returns : goal.returns
returns c start list held told holds tells =
    let begins = keeps list held told holds tells in (begins, longer_up start (longest held told) held begins)
