-- Diaries of different callers.
use Rattle.std.proofs.Common.{◌≡◌, ℕ, ◌+◌, ◌<◌, ◌≤◌, List, [], ◌∷◌, ◌++◌, length, get_or, take, sym, ap, ◌∙◌, subst, arith}
use Rattle.std.proofs.lemmas.List.{get_or-take, get_or_default, length-take-le, take_all, take_more}
use Rattle.std.proofs.lemmas.List.Quantifiers.{all_pairs_push}
use Rattle.exh_calls.specs.Diary.{DiaryState}
use Rattle.exh_calls.specs.Settled.{AreApart, IsOfOne}

module _ (diaries : List DiaryState) (at : ℕ) (diary : DiaryState) (less : at < length diaries) (is : diary ≡ get_or diaries at diary) where
  -- a caller of whom an earlier diary is
  pub told_twice : IsOfOne (take at diaries) diary.client → AreApart diaries → ⊥
  told_twice (k, other, within, found, same) apart =
      let len = length-take-le at diaries (omega (arith, less)) in
      let before : k < at = omega (arith, within, len) in
      let there : get_or diaries k diary ≡ other = get_or_default diaries k diary other (omega (arith, before, less)) ∙ sym (get_or-take at diaries k other before) ∙ found in
      apart k at diary before less (ap (λ (d : DiaryState). d.client) there ∙ same ∙ ap (λ (d : DiaryState). d.client) is)

  pub one_more : AreApart (take at diaries) → (IsOfOne (take at diaries) diary.client → ⊥) → AreApart (take (at + 1) diaries)
  one_more apart new =
      subst AreApart (sym (take_more diaries at diary less ∙ ap (λ (d : DiaryState). take at diaries ++ d ∷ []) (sym is)))
      (all_pairs_push (λ (one other : DiaryState). one.client ≡ other.client → ⊥) (take at diaries) diary apart
      (λ k d within same. new (k, get_or (take at diaries) k d, within, get_or_default (take at diaries) k (get_or (take at diaries) k d) d within, same)))

pub all_apart : (diaries : List DiaryState) (at : ℕ) → length diaries ≤ at → AreApart (take at diaries) → AreApart diaries
all_apart diaries at end apart = subst AreApart (take_all at diaries end) apart
