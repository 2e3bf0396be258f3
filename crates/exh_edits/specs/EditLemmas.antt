-- Edits are no more than the places that they are of.
use Rattle.std.proofs.Common.{◌≡◌, ℕ, suc, ◌≤◌, nat_eq, Bool, true, false, cond, ◌||◌, List, [], ◌∷◌, length, refl, sym, ap, ◌∙◌, arith}
use Rattle.std.specs.List.{AllByRecursion, IsDistinct, list_any}
use Rattle.std.proofs.lemmas.Bool.{false≢true}
use Rattle.std.proofs.lemmas.Bool.Decides.{nat_tests}
use Rattle.std.proofs.lemmas.List.{length-map}
use Rattle.exh_direct.specs.OnceLemmas.{apart_by, differ}
use Rattle.exh_edits.specs.declared.block_edit.BlockEdit.{BlockEdit}
use Rattle.exh_edits.specs.EditsInTurn.{AreAmong, places_of}

-- ---- tests

pub same_number : (n : ℕ) → nat_eq n n ≡ true
same_number n = grind (arith, nat_tests)

same_numbers : (n m : ℕ) → nat_eq n m ≡ true → n ≡ m
same_numbers n m same = grind (arith, nat_tests)

other_of : (one other : Bool) → one ≡ false → (one || other) ≡ true → other ≡ true
other_of true other none is = absurd (false≢true (sym none))
other_of false other none is = is

either_more : (one other more : Bool) → (other ≡ true → more ≡ true) → (one || other) ≡ true → (one || more) ≡ true
either_more true other more next is = refl
either_more false other more next is = next is

-- ---- numbers among others

pub among_here : (number : ℕ) (numbers : List ℕ) → list_any (nat_eq number) (number ∷ numbers) ≡ true
among_here number numbers = ap (λ (b : Bool). b || list_any (nat_eq number) numbers) (same_number number)

pub among_behind : (number other : ℕ) (numbers : List ℕ) → list_any (nat_eq number) numbers ≡ true → list_any (nat_eq number) (other ∷ numbers) ≡ true
among_behind number other numbers is = by (nat_eq number other)
  where
    by : (b : Bool) → (b || list_any (nat_eq number) numbers) ≡ true
    by true = refl
    by false = is

pub all_behind : (numbers : List ℕ) (other : ℕ) (these : List ℕ) → AreAmong these numbers → AreAmong (other ∷ these) numbers
all_behind [] other these all = tt
all_behind (number ∷ numbers) other these all = (among_behind number other these all.0, all_behind numbers other these all.1)

-- ---- as many numbers

-- without the first that is a number
without : ℕ → List ℕ → List ℕ
without number [] = []
without number (other ∷ numbers) = cond (nat_eq number other) numbers (other ∷ without number numbers)

length-without : (number : ℕ) (numbers : List ℕ) → list_any (nat_eq number) numbers ≡ true → length numbers ≡ suc (length (without number numbers))
unfolding without
length-without number [] is = absurd (false≢true is)
length-without number (other ∷ numbers) is = by (nat_eq number other) (length-without number numbers) is
  where
    by : (b : Bool) → (list_any (nat_eq number) numbers ≡ true → length numbers ≡ suc (length (without number numbers))) → (b || list_any (nat_eq number) numbers) ≡ true → suc (length numbers) ≡ suc (length (cond b numbers (other ∷ without number numbers)))
    by true less is = refl
    by false less is = ap suc (less is)

among_without : (number other : ℕ) (numbers : List ℕ) → nat_eq number other ≡ false → list_any (nat_eq other) numbers ≡ true → list_any (nat_eq other) (without number numbers) ≡ true
unfolding without
among_without number other [] apart is = absurd (false≢true is)
among_without number other (next ∷ numbers) apart is = by (nat_eq number next) refl (among_without number other numbers apart)
  where
    by : (b : Bool) → nat_eq number next ≡ b → (list_any (nat_eq other) numbers ≡ true → list_any (nat_eq other) (without number numbers) ≡ true) → list_any (nat_eq other) (cond b numbers (next ∷ without number numbers)) ≡ true
    by true same less =
        let apart_too : nat_eq other next ≡ false = apart_by other next (λ equal. differ number other apart (same_numbers number next same ∙ sym equal)) in
        other_of (nat_eq other next) (list_any (nat_eq other) numbers) apart_too is
    by false same less = either_more (nat_eq other next) (list_any (nat_eq other) numbers) (list_any (nat_eq other) (without number numbers)) less is

all_without : (number : ℕ) (numbers these : List ℕ) → AllByRecursion (λ (other : ℕ). nat_eq number other ≡ false) numbers → AreAmong these numbers → AreAmong (without number these) numbers
all_without number [] these apart all = tt
all_without number (other ∷ numbers) these apart all = (among_without number other these apart.0 all.0, all_without number numbers these apart.1 all.1)

few_numbers : (numbers these : List ℕ) → IsDistinct nat_eq numbers → AreAmong these numbers → length numbers ≤ length these
unfolding IsDistinct
few_numbers [] these once all = omega arith
few_numbers (number ∷ numbers) these once all =
    let less = few_numbers numbers (without number these) once.1 (all_without number numbers these once.0 all.1) in
    omega (arith, less, length-without number these all.0)

-- ---- edits

pub few_edits : (edits : List BlockEdit) (places : List ℕ) → IsDistinct nat_eq (places_of edits) → AreAmong places (places_of edits) → length edits ≤ length places
few_edits edits places once all = omega (arith, length-map edits (λ (edit : BlockEdit). edit.place), few_numbers (places_of edits) places once all)
