-- What holds of lists, options and tests of anything.
use Rattle.std.proofs.Common.{◌≡◌, ℕ, zero, suc, ◌<◌, ◌≤◌, Bool, true, false, cond, ◌&&◌, List, [], ◌∷◌, ◌++◌, length, map, filter, drop, slice_get, Option, MatchOption, Some, None, IsSome, Ordering, Contains, ◌⊎◌, inl, inr, refl, sym, ap, ◌∙◌, subst, arith}
use Rattle.std.specs.Prelude.{slice_set, T}
use Rattle.std.specs.declared.cmp.Ordering.TheVariants.{Less, Equal, Greater}
use Rattle.std.specs.List.{AllByRecursion}
use Rattle.std.specs.Option.{SomeIff}
use Rattle.std.specs.Ordering.{is_eq}
use Rattle.std.proofs.lemmas.Bool.{cases_eq}
use Rattle.std.proofs.lemmas.List.{length-map, get_or-map}

-- ---- tests

pub first_part : (a b : Bool) → T (a && b) → T a
first_part true b both = tt
first_part false b both = both

pub second_part : (a b : Bool) → T (a && b) → T b
second_part true b both = both
second_part false b both = absurd both

pub is_equal : (r : Ordering) → is_eq r ≡ true → r ≡ Equal
is_equal Less is = cc
is_equal Equal is = refl
is_equal Greater is = cc

-- ---- options that are some value exactly where a fact holds

pub some_if_holds : {A : Type 0} (r : Option A) (P : Type 0) (v : A) → SomeIff r P v → P → IsSome r
some_if_holds None P v none holds = absurd (none holds)
some_if_holds (Some x) P v some holds = refl

pub value_of_some : {A : Type 0} (r : Option A) (P : Type 0) (v x : A) → SomeIff r P v → r ≡ Some x → x ≡ v
value_of_some r P v x some is = (subst (λ r. SomeIff r P v) is some).1

-- ---- lists

module _ {A : Type 0} (P : A → Type 0) where
  pub AllByRecursion-append : (front back : List A) → AllByRecursion P front → AllByRecursion P back → AllByRecursion P (front ++ back)
  AllByRecursion-append [] back fore aft = aft
  AllByRecursion-append (x ∷ front) back fore aft = (fore.0, AllByRecursion-append front back fore.1 aft)

  pub AllByRecursion-push : (front : List A) (x : A) → AllByRecursion P front → P x → AllByRecursion P (front ++ x ∷ [])
  AllByRecursion-push front x all last = AllByRecursion-append front (x ∷ []) all (last, tt)

  pub AllByRecursion-append_left : (front back : List A) → AllByRecursion P (front ++ back) → AllByRecursion P front
  AllByRecursion-append_left [] back all = tt
  AllByRecursion-append_left (x ∷ front) back all = (all.0, AllByRecursion-append_left front back all.1)

  pub AllByRecursion-append_right : (front back : List A) → AllByRecursion P (front ++ back) → AllByRecursion P back
  AllByRecursion-append_right [] back all = all
  AllByRecursion-append_right (x ∷ front) back all = AllByRecursion-append_right front back all.1

  pub AllByRecursion-weaker : (Q : A → Type 0) → ((x : A) → P x → Q x) → (xs : List A) → AllByRecursion P xs → AllByRecursion Q xs
  AllByRecursion-weaker Q weaker [] all = tt
  AllByRecursion-weaker Q weaker (x ∷ xs) all = (weaker x all.0, AllByRecursion-weaker Q weaker xs all.1)

pub AllByRecursion-filter : {A : Type 0} (p : A → Bool) (P : A → Type 0) (xs : List A) → AllByRecursion P xs → AllByRecursion P (filter p xs)
AllByRecursion-filter p P [] all = tt
AllByRecursion-filter p P (x ∷ xs) all = elim (p x) as (λ b. AllByRecursion P (cond b (x ∷ filter p xs) (filter p xs))) [
  | true ↦ (all.0, AllByRecursion-filter p P xs all.1)
  | false ↦ AllByRecursion-filter p P xs all.1
]

-- tests that pass hold of each that a filter keeps
pub filter-passes : {A : Type 0} (p : A → Bool) (P : A → Type 0) → ((x : A) → p x ≡ true → P x) → (xs : List A) → AllByRecursion P (filter p xs)
filter-passes p P holds [] = tt
filter-passes p P holds (x ∷ xs) = elim (p x) as (λ b. p x ≡ b → AllByRecursion P (cond b (x ∷ filter p xs) (filter p xs))) [
  | true ↦ λ is. (holds x is, filter-passes p P holds xs)
  | false ↦ λ is. filter-passes p P holds xs
] refl

pub Contains-map : {A B : Type 0} (f : A → B) (xs : List A) (x : A) → Contains xs x → Contains (map f xs) (f x)
Contains-map f xs x among = (among.0, omega (arith, among.1, length-map xs f), get_or-map f xs among.0 x (f x) among.1 ∙ ap f among.2)

module _ {A : Type 0} where
  -- at a place there is one element
  pub one_there : (xs : List A) (at : ℕ) (one other : A) → slice_get xs at ≡ Some one → slice_get xs at ≡ Some other → one ≡ other
  one_there xs at one other is too = let both : Some one ≡ Some other = sym is ∙ too in cc

  pub within_there : (xs : List A) (at : ℕ) → at < length xs → (x : A) × (slice_get xs at ≡ Some x)
  within_there [] at fits = absurd (omega arith)
  within_there (y ∷ xs) zero fits = (y, refl)
  within_there (y ∷ xs) (suc at) fits = within_there xs at (omega arith)

  -- the element at a place that is left is the first of those left there
  pub first_left : (items : List A) (next : ℕ) (taken : Option A) → next < length items → taken ≡ slice_get items next
      → MatchOption taken ((drop next items ≡ []) × (drop (suc next) items ≡ [])) (λ item. drop next items ≡ item ∷ drop (suc next) items)
  first_left [] next taken within is = absurd (omega arith)
  first_left (first ∷ others) zero taken within is = rw is refl
  first_left (first ∷ others) (suc next) taken within is = first_left others next taken (omega arith) is

  -- ---- more elements behind

  pub at_front : (front back : List A) (place : ℕ) → place < length front → slice_get (front ++ back) place ≡ slice_get front place
  at_front [] back place within = absurd (omega arith)
  at_front (first ∷ front) back zero within = refl
  at_front (first ∷ front) back (suc place) within = at_front front back place (omega arith)

  pub at_last : (front : List A) (last : A) → slice_get (front ++ last ∷ []) (length front) ≡ Some last
  at_last [] last = refl
  at_last (first ∷ front) last = at_last front last

  pub push_is : (xs : List A) (x y : A) (at : ℕ) → slice_get (xs ++ x ∷ []) at ≡ Some y → (slice_get xs at ≡ Some y) ⊎ (y ≡ x)
  push_is [] x y zero is = inr cc
  push_is [] x y (suc at) is = cc
  push_is (z ∷ xs) x y zero is = inl is
  push_is (z ∷ xs) x y (suc at) is = push_is xs x y at is

  pub drop_push : (n : ℕ) (xs : List A) (x : A) → n ≤ length xs → drop n (xs ++ x ∷ []) ≡ drop n xs ++ x ∷ []
  drop_push zero xs x few = refl
  drop_push (suc n) [] x few = absurd (omega arith)
  drop_push (suc n) (y ∷ xs) x few = drop_push n xs x (omega arith)

  -- ---- one place written

  pub set_here : (xs : List A) (at : ℕ) (old x : A) → slice_get xs at ≡ Some old → slice_get (slice_set xs at x) at ≡ Some x
  set_here [] at old x is = cc
  set_here (y ∷ xs) zero old x is = refl
  set_here (y ∷ xs) (suc at) old x is = set_here xs at old x is

  pub set_else : (xs : List A) (at other : ℕ) (x : A) → (other ≡ at → ⊥) → slice_get (slice_set xs at x) other ≡ slice_get xs other
  set_else [] at other x differ = refl
  set_else (y ∷ xs) zero zero x differ = absurd (differ refl)
  set_else (y ∷ xs) zero (suc other) x differ = refl
  set_else (y ∷ xs) (suc at) zero x differ = refl
  set_else (y ∷ xs) (suc at) (suc other) x differ = set_else xs at other x (λ same. differ (ap suc same))

  pub set_same : (xs : List A) (at : ℕ) (x : A) → slice_get xs at ≡ Some x → slice_set xs at x ≡ xs
  set_same [] at x is = refl
  set_same (y ∷ xs) zero x is = let same : y ≡ x = cc in ap (λ z. z ∷ xs) (sym same)
  set_same (y ∷ xs) (suc at) x is = ap (λ rest. y ∷ rest) (set_same xs at x is)

  -- what stands at a place after one is written: what was written, or what stood there
  pub set_is : (xs : List A) (at other : ℕ) (old x y : A) → slice_get xs at ≡ Some old → slice_get (slice_set xs at x) other ≡ Some y
      → ((other ≡ at) × (y ≡ x)) ⊎ ((other ≡ at → ⊥) × (slice_get xs other ≡ Some y))
  set_is xs at other old x y there is = elim (cases_eq other at) [
    | inl same ↦ inl (same, one_there (slice_set xs at x) other y x is (subst (λ n. slice_get (slice_set xs at x) n ≡ Some x) (sym same) (set_here xs at old x there)))
    | inr differ ↦ inr (differ, sym (set_else xs at other x differ) ∙ is)
  ]
