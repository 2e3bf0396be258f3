-- Places that are read once.
use Rattle.std.proofs.Common.{◌≡◌, ℕ, ◌+◌, ◌<◌, ◌≤◌, nat_eq, true, false, Bool, cond, ◌||◌, List, [], ◌∷◌, ◌++◌, map, nat_cmp, refl, sym, ap, ◌∙◌, arith}
use Rattle.std.specs.BTreeMap.{is_at}
use Rattle.std.specs.BTreeSet.{BTreeSet, Updates, contains}
use Rattle.std.specs.Cmp.{nat_eq_equiv}
use Rattle.std.specs.List.{AllByRecursion, IsDistinct, list_any}
use Rattle.std.proofs.lemmas.Bool.{false≢true}
use Rattle.std.proofs.lemmas.Bool.Decides.{nat_tests}
use Rattle.exh_prefix.specs.PrefixListLemmas.{AllByRecursion-append}
use Rattle.std.proofs.lemmas.List.Folds.{list_any-append}
use Rattle.std.proofs.lemmas.Map.Keys.{IsDistinct-push}

-- ---- lists of numbers of which none is there twice

pub distinct_more : (numbers : List ℕ) (number : ℕ) → IsDistinct nat_eq numbers → list_any (nat_eq number) numbers ≡ false → IsDistinct nat_eq (numbers ++ number ∷ [])
distinct_more numbers number once other = IsDistinct-push nat_eq_equiv numbers number once other

pub apart_by : (n m : ℕ) → (n ≡ m → ⊥) → nat_eq n m ≡ false
apart_by n m apart = grind (arith, nat_tests)

pub differ : (n m : ℕ) → nat_eq n m ≡ false → n ≡ m → ⊥
differ n m apart same = false≢true (sym apart ∙ (grind (arith, nat_tests)))

pub none_twice : IsDistinct nat_eq []
unfolding IsDistinct
none_twice = tt

-- ---- a set of the numbers of a list

tied_is : (number n : ℕ) → is_at (nat_cmp number) n ≡ nat_eq n number
tied_is number n = grind (arith, nat_tests)

pub noted_is : (old new : BTreeSet ℕ) (way : List ℕ) (number : ℕ) → ((n : ℕ) → contains nat_cmp old n ≡ list_any (nat_eq n) way) → Updates nat_cmp old new number true → (n : ℕ) → contains nat_cmp new n ≡ list_any (nat_eq n) (way ++ number ∷ [])
noted_is old new way number known updates n =
    updates.0 n ∙ ap (λ (b : Bool). cond b true (contains nat_cmp old n)) (tied_is number n) ∙ joined (nat_eq n number) (contains nat_cmp old n) (list_any (nat_eq n) way) (known n) ∙ sym (list_any-append (nat_eq n) way (number ∷ []))
  where
    joined : (here there others : Bool) → there ≡ others → cond here true there ≡ (others || (here || false))
    joined true there true is = refl
    joined true there false is = refl
    joined false there true is = is
    joined false there false is = is

-- ---- numbers at one distance from a place

module _ (place : ℕ) where
  apart_too : (number : ℕ) (numbers : List ℕ) → AllByRecursion (λ (other : ℕ). nat_eq number other ≡ false) numbers → AllByRecursion (λ (other : ℕ). nat_eq (place + number) other ≡ false) (map (λ (number : ℕ). place + number) numbers)
  apart_too number [] all = tt
  apart_too number (other ∷ numbers) all = (apart_by (place + number) (place + other) (λ same. differ number other all.0 (omega (arith, same))), apart_too number numbers all.1)

  pub distinct_places : (numbers : List ℕ) → IsDistinct nat_eq numbers → IsDistinct nat_eq (map (λ (number : ℕ). place + number) numbers)
  unfolding IsDistinct
  distinct_places [] once = tt
  distinct_places (number ∷ numbers) once = (apart_too number numbers once.0, distinct_places numbers once.1)

-- ---- lists of which each number of the one is below each of the other

below_all : (bound : ℕ) (one : ℕ) (others : List ℕ) → one < bound → AllByRecursion (λ (other : ℕ). bound ≤ other) others → AllByRecursion (λ (other : ℕ). nat_eq one other ≡ false) others
below_all bound one [] less all = tt
below_all bound one (other ∷ others) less all = (apart_by one other (λ same. omega (arith, same, less, all.0)), below_all bound one others less all.1)

above_all : (bound : ℕ) (one : ℕ) (others : List ℕ) → bound ≤ one → AllByRecursion (λ (other : ℕ). other < bound) others → AllByRecursion (λ (other : ℕ). nat_eq one other ≡ false) others
above_all bound one [] more all = tt
above_all bound one (other ∷ others) more all = (apart_by one other (λ same. omega (arith, same, more, all.0)), above_all bound one others more all.1)

pub distinct_join : (bound : ℕ) (front back : List ℕ) → IsDistinct nat_eq front → IsDistinct nat_eq back → AllByRecursion (λ (one : ℕ). bound ≤ one) front → AllByRecursion (λ (other : ℕ). other < bound) back → IsDistinct nat_eq (front ++ back)
unfolding IsDistinct
distinct_join bound [] back first second high low = second
distinct_join bound (one ∷ front) back first second high low = (
  AllByRecursion-append (λ (other : ℕ). nat_eq one other ≡ false) front back first.0 (above_all bound one back high.0 low),
  distinct_join bound front back first.1 second high.1 low,
)

pub distinct_behind_zero : (places : List ℕ) → IsDistinct nat_eq places → AllByRecursion (λ (place : ℕ). 1 ≤ place) places → IsDistinct nat_eq (0 ∷ places)
unfolding IsDistinct
distinct_behind_zero places once high = (below_all 1 0 places (omega arith) high, once)
