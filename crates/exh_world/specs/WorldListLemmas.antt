-- Lists after one place is written, and things numbered from 1 on.
use Rattle.std.proofs.Common.{◌≡◌, ℕ, zero, suc, ◌-◌, ◌<◌, List, [], ◌∷◌, ◌++◌, length, map, replicate, get_or, slice_get, Option, None, Some, ◌⊎◌, inl, inr, refl, sym, ap, ◌∙◌, subst, arith}
use Rattle.std.specs.Prelude.{slice_set}
use Rattle.std.specs.List.{range_with_len}
use Rattle.std.specs.Option.{option_map, option_map_or}
use Rattle.std.proofs.lemmas.List.{length-replicate, get_or-replicate}
use Rattle.std.proofs.lemmas.List.FromFn.{length-map-range_with_len, get_or-map-range_with_len}
use Rattle.std.proofs.lemmas.Option.{get_or_from_slice_get, slice_get-map, slice_get_read, slice_get_within}
use Rattle.exh_prefix.specs.PrefixListLemmas.{push_is, set_is, set_here}
use Rattle.exh_world.specs.World.{numbered}

-- ---- what stands in a list of one value over and over, and in none

pub replicate_is : {A : Type 0} (n : ℕ) (x y : A) (at : ℕ) → slice_get (replicate n x) at ≡ Some y → y ≡ x
replicate_is n x y at is =
    let within = subst (λ length. at < length) (length-replicate n x) (slice_get_within (replicate n x) at y is) in
    sym (get_or_from_slice_get (replicate n x) at y x is) ∙ get_or-replicate n at x x within

pub numbered_is : {A : Type 0} (n : ℕ) (x y : A) (number : ℕ) → numbered (replicate n x) number ≡ Some y → y ≡ x
numbered_is n x y zero is = cc
numbered_is n x y (suc number) is = replicate_is n x y number is

pub numbered_none : {A : Type 0} (number : ℕ) (y : A) → numbered (let none : List A = [] in none) number ≡ Some y → ⊥
numbered_none zero y is = cc
numbered_none (suc number) y is = cc

module _ {A : Type 0} where
  -- ---- numbered from 1 on

  pub numbered_push : (xs : List A) (x y : A) (number : ℕ) → numbered (xs ++ x ∷ []) number ≡ Some y → (numbered xs number ≡ Some y) ⊎ (y ≡ x)
  numbered_push xs x y zero is = cc
  numbered_push xs x y (suc number) is = push_is xs x y number is

  pub numbered_set : (xs : List A) (at other : ℕ) (old x y : A) → numbered xs at ≡ Some old → numbered (slice_set xs (at - 1) x) other ≡ Some y
      → ((other ≡ at) × (y ≡ x)) ⊎ ((other ≡ at → ⊥) × (numbered xs other ≡ Some y))
  numbered_set xs zero other old x y there is = cc
  numbered_set xs (suc at) zero old x y there is = cc
  numbered_set xs (suc at) (suc other) old x y there is =
      let before : suc at - 1 ≡ at = omega arith in
      elim (set_is xs at other old x y there (subst (λ n. slice_get (slice_set xs n x) other ≡ Some y) before is)) [
        | inl here ↦ inl (ap suc here.0, here.1)
        | inr else ↦ inr (λ same. else.0 (omega (arith, same)), else.1)
      ]

  pub numbered_here : (xs : List A) (at : ℕ) (old x : A) → numbered xs at ≡ Some old → numbered (slice_set xs (at - 1) x) at ≡ Some x
  numbered_here xs zero old x there = cc
  numbered_here xs (suc at) old x there =
      let before : suc at - 1 ≡ at = omega arith in
      subst (λ n. slice_get (slice_set xs n x) at ≡ Some x) (sym before) (set_here xs at old x there)

  -- what stands at the place of a number, once it is read there
  pub numbered_read : (xs seen : List A) (at place : ℕ) (x : A) → seen ≡ xs → (place ≡ at - 1) × (place < length seen) × (numbered seen at ≡ slice_get seen place) → x ≡ get_or xs place x → numbered xs at ≡ Some x
  numbered_read xs seen at place x same is read =
      subst (λ items. numbered items at ≡ slice_get items place) same is.2
      ∙ slice_get_read xs (length xs) place x refl (subst (λ items. place < length items) same is.1) read

-- ---- the list of the values of a function

pub mapped_is : {A : Type 0} (f : ℕ → A) (n at : ℕ) (y : A) → slice_get (map f (range_with_len 0 n)) at ≡ Some y → (at < n) × (y ≡ f at)
mapped_is f n at y is =
    let within = subst (λ length. at < length) (length-map-range_with_len f 0 n) (slice_get_within (map f (range_with_len 0 n)) at y is) in
    (within, sym (get_or_from_slice_get (map f (range_with_len 0 n)) at y y is) ∙ get_or-map-range_with_len f 0 n at at y within (omega arith))

module _ {A B : Type 0} (f : A → B) where
  pub map_there : (xs : List A) (at : ℕ) (x : A) → slice_get xs at ≡ Some x → slice_get (map f xs) at ≡ Some (f x)
  map_there xs at x is = slice_get-map f xs at ∙ ap (option_map f) is

  pub map_from : (xs : List A) (at : ℕ) (y : B) → slice_get (map f xs) at ≡ Some y → (x : A) × (slice_get xs at ≡ Some x) × (y ≡ f x)
  map_from [] at y is = cc
  map_from (x ∷ xs) zero y is = (x, refl, cc)
  map_from (x ∷ xs) (suc at) y is = map_from xs at y is

-- ---- what a list whose elements were altered has at a place, where that is what they had before

module _ {A B : Type 0} (alter : A → A) (of : A → B) (same : (x : A) → of (alter x) ≡ of x) (none : B) where
  of_altered : (found : Option A) → option_map_or of (option_map alter found) none ≡ option_map_or of found none
  of_altered None = refl
  of_altered (Some x) = same x

  pub altered_has : (xs : List A) (at : ℕ) → option_map_or of (slice_get (map alter xs) at) none ≡ option_map_or of (slice_get xs at) none
  altered_has xs at = ap (λ found. option_map_or of found none) (slice_get-map alter xs at) ∙ of_altered (slice_get xs at)
