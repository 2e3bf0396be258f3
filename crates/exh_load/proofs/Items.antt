-- A list that is made item by item.
use Rattle.std.proofs.Common.{◌≡◌, ℕ, ◌+◌, List, [], ◌∷◌, ◌++◌, length, slice_get, Some, inl, inr, sym, ◌∙◌, subst, arith}
use Rattle.std.proofs.lemmas.Bool.{cases_lt}
use Rattle.std.proofs.lemmas.List.{length_push}
use Rattle.std.proofs.lemmas.Option.{slice_get_within}
use Rattle.exh_prefix.specs.PrefixListLemmas.{at_front, at_last, one_there}
use Rattle.exh_load.specs.Loader.{AreEach}

pub each_more : {A : Type 0} (P : ℕ → A → Type 0) (count : ℕ) (items : List A) (item : A) (new : List A) → AreEach P count items → P count item → new ≡ items ++ item ∷ [] → AreEach P (count + 1) new
each_more {A} P count items item new are has is = subst (AreEach P (count + 1)) (sym is) record {
  count_is = omega (arith, length_push items item, are.count_is);
  each = λ number one at. elim (cases_lt number (length items)) [
    | inl before ↦ are.each number one (sym (at_front items (item ∷ []) number before) ∙ at)
    | inr past ↦
        let within = slice_get_within (items ++ item ∷ []) number one at in
        let last : number ≡ length items = omega (arith, within, past, length_push items item) in
        let place : number ≡ count = last ∙ are.count_is in
        let same = one_there (items ++ item ∷ []) number one item at (subst (λ n. slice_get (items ++ item ∷ []) n ≡ Some item) (sym last) (at_last items item)) in
        subst (λ n. P n one) (sym place) (subst (P count) (sym same) has)
  ];
}
