-- Lists whose elements are pushed in order, each of them fit for its place.
use Rattle.std.proofs.Common.{◌≡◌, ℕ, ◌+◌, List, [], ◌∷◌, ◌++◌, length, slice_get, Some, inl, inr, sym, ◌∙◌, subst, arith}
use Rattle.std.proofs.lemmas.Bool.{cases_lt}
use Rattle.std.proofs.lemmas.List.{length_push}
use Rattle.std.proofs.lemmas.Option.{slice_get_within}
use Rattle.exh_prefix.specs.PrefixListLemmas.{at_front, at_last, one_there}

module _ {X : Type 0} (Fits : ℕ → X → Type 0) where
  -- so many, each fit for its place
  abbrev pub AreFirst : ℕ → List X → Type 0
  AreFirst count xs = (length xs ≡ count) × ((place : ℕ) (x : X) → slice_get xs place ≡ Some x → Fits place x)

  pub one_more : (count : ℕ) (xs : List X) (last : X) (new : List X) → AreFirst count xs → Fits count last → new ≡ xs ++ last ∷ [] → AreFirst (count + 1) new
  one_more count xs last new are has is = subst (AreFirst (count + 1)) (sym is) (
    omega (arith, length_push xs last, are.0),
    λ place x at. elim (cases_lt place (length xs)) [
      | inl before ↦ are.1 place x (sym (at_front xs (last ∷ []) place before) ∙ at)
      | inr past ↦
          let within = slice_get_within (xs ++ last ∷ []) place x at in
          let end : place ≡ length xs = omega (arith, within, past, length_push xs last) in
          let here : place ≡ count = end ∙ are.0 in
          let same = one_there (xs ++ last ∷ []) place x last at (subst (λ n. slice_get (xs ++ last ∷ []) n ≡ Some last) (sym end) (at_last xs last)) in
          subst (λ n. Fits n x) (sym here) (subst (Fits count) (sym same) has)
    ],
  )
