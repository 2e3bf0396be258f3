-- A ward's own prefix, read off its number; tables with no entry.
use Rattle.std.proofs.Common.{◌≡◌, ℕ, ◌-◌, ◌*◌, ◌%◌, ◌^◌, ◌<◌, ◌≤◌, Bool, true, false, not, List, [], ◌∷◌, take, length, Option, Some, None, refl, sym, ap, ◌∙◌, subst, arith}
use Rattle.std.specs.Prelude.{IsSome, IsTrue, ◌↔◌, is_some}
use Rattle.std.specs.Map.Iter.{TakesFirst}
use Rattle.std.proofs.lemmas.Bool.{false≢true}
use Rattle.std.specs.FinMap.{empty, empty_of_len, entries, len-empty, len-entries}
use Rattle.std.specs.Option.{SomeIff}
use Rattle.std.proofs.lemmas.Nat.{shl_whole}
use Rattle.exh_prefix.specs.Bits.{bits_of, word_bits}
use Rattle.exh_prefix.specs.BitLemmas.{length-bits_of, number_of-bits_of}
use Rattle.exh_prefix.specs.declared.prefix.TheConstants.{LIMIT}
use Rattle.exh_prefix.specs.Prefix.{HasPrefix, low_of, prefix_cmp}
use Rattle.exh_prefix.specs.PrefixLemmas.{HasPrefix-low_of, low_of-product, take-low_of}
use Rattle.exh_table.specs.declared.Entry.{Entry}
use Rattle.exh_table.specs.Table.{TableMap}
use Rattle.exh_prefix.specs.Leading.{ward_prefix}
use Rattle.exh_legal.proofs.Fits.{same_child}

pub low_of-ward_prefix : (s n : ℕ) → n < 2 ^ s → low_of (ward_prefix s n) ≡ n * 2 ^ (64 - s)
low_of-ward_prefix s n small =
    low_of-product (bits_of s n) ∙ ap (λ m. m * 2 ^ (64 - length (bits_of s n))) (number_of-bits_of s n small) ∙ ap (λ m. n * 2 ^ (64 - m)) (length-bits_of s n)

stored : (s n low : ℕ) → s ≤ LIMIT → n < 2 ^ s → low ≡ n * 2 ^ (64 - s) → HasPrefix s low
stored s n low short small is =
    let P : ℕ → Type 0 = λ m. HasPrefix s m in
    let Q : ℕ → Type 0 = λ m. HasPrefix m (low_of (ward_prefix s n)) in
    subst P (low_of-ward_prefix s n small ∙ sym is) (subst Q (length-bits_of s n) (HasPrefix-low_of (bits_of s n) (omega (arith, length-bits_of s n))))

taken : (s n low : ℕ) → s ≤ LIMIT → n < 2 ^ s → low ≡ n * 2 ^ (64 - s) → take s (word_bits low) ≡ ward_prefix s n
taken s n low short small is =
    ap (λ m. take s (word_bits m)) (is ∙ sym (low_of-ward_prefix s n small)) ∙ ap (λ m. take m (word_bits (low_of (bits_of s n)))) (sym (length-bits_of s n))
    ∙ take-low_of (bits_of s n) (omega (arith, length-bits_of s n))

some_from : (found : Option (List Bool)) (Holds : Type 0) (value : List Bool) → SomeIff found Holds value → Holds → IsSome found
some_from None Holds value iff holds = absurd (iff holds)
some_from (Some own) Holds value iff holds = refl

pub own_some : (s n low : ℕ) (found : Option (List Bool)) → s ≤ LIMIT → n < 2 ^ s → low ≡ n * 2 ^ (64 - s) → SomeIff found (HasPrefix s low) (take s (word_bits low)) → IsSome found
own_some s n low found short small is iff = some_from found (HasPrefix s low) (take s (word_bits low)) iff (stored s n low short small is)

pub own_is : (s n low : ℕ) (found : Option (List Bool)) (prefix : List Bool) → s ≤ LIMIT → n < 2 ^ s → low ≡ n * 2 ^ (64 - s) → SomeIff found (HasPrefix s low) (take s (word_bits low)) → found ≡ Some prefix → prefix ≡ ward_prefix s n
own_is s n low found prefix short small is iff some = same_child found (HasPrefix s low) (take s (word_bits low)) prefix iff some ∙ taken s n low short small is

pub shifted_low : (s n : ℕ) → s ≤ LIMIT → n < 2 ^ s → n * 2 ^ (64 - s) % 2 ^ 64 ≡ n * 2 ^ (64 - s)
shifted_low s n short small = shl_whole n s (64 - s) 64 small (omega (arith, short))

pub bare_table : (table : TableMap) → entries table ≡ [] → table ≡ empty
bare_table table none = empty_of_len table (len-entries table ∙ ap length none)

pub full_table : (table : TableMap) (item : List Bool × Entry) (rest : List (List Bool × Entry)) → entries table ≡ item ∷ rest → table ≡ empty → ⊥
full_table table item rest some none =
    let zero_is : length (entries table) ≡ 0 = ap (λ (t : TableMap). length (entries t)) none ∙ sym (len-entries empty) ∙ len-empty prefix_cmp Entry in
    absurd (omega (arith, zero_is, ap length some))

is_so : (answer : Bool) → false ≡ not answer → answer ≡ true
is_so true is = refl
is_so false is = absurd (false≢true is)

isnt_so : (answer : Bool) → true ≡ not answer → answer ≡ false
isnt_so false is = refl
isnt_so true is = absurd (false≢true (sym is))

pub tells_bare : {A : Type 0} (shows : A → List Bool × Entry) (found : Option A) (items after : List (List Bool × Entry)) → TakesFirst shows items found after → (table : TableMap) → items ≡ entries table → (answer : Bool) → is_some found ≡ not answer
    → IsTrue answer ↔ (table ≡ empty)
tells_bare shows None items after steps table same answer is = (λ _. bare_table table (sym same ∙ steps.0), λ _. is_so answer is)
tells_bare shows (Some item) items after steps table same answer is = (λ yes. absurd (false≢true (sym (isnt_so answer is) ∙ yes)), λ none. absurd (full_table table (shows item) after (sym same ∙ steps) none))
