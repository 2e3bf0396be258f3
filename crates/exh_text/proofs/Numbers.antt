-- Reading decimal digits from the left.
use Rattle.std.proofs.Common.{◌≡◌, ℕ, ◌+◌, ◌-◌, ◌*◌, ◌<◌, ◌≤◌, List, [], ◌∷◌, length, drop, get_or, ◌≢◌, true, false, Some, None, Result, Ok, Err, OkIff, refl, sym, ap, ◌∙◌, arith}
use Rattle.std.specs.Result.{result_ok}
use Rattle.std.specs.Char.{is_ascii_digit, digit_value}
use Rattle.std.specs.Str.Parse.{digits_value_after}
use Rattle.std.proofs.lemmas.Grind.{common_steps}
use Rattle.std.proofs.lemmas.Bool.Decides.{nat_tests}
use Rattle.std.proofs.lemmas.List.{at_drop_more, at_drop_all}
use Rattle.exh_text.specs.Numbers.{number_up_to}
use Rattle.exh_text.specs.Numbers.{digits_up_to}

-- more digits make no number smaller
digits_value_after-ge : (n : ℕ) (digits : List ℕ) → n ≤ digits_value_after 10 n digits
digits_value_after-ge n [] = omega arith
digits_value_after-ge n (digit ∷ digits) = omega (arith, digits_value_after-ge (n * 10 + digit_value digit) digits)

great : (greatest n digit : ℕ) (digits : List ℕ) → greatest < n * 10 + digit_value digit → digits_up_to greatest n (digit ∷ digits) ≡ None
unfolding digits_up_to
great greatest n digit digits h =
    let grown = digits_value_after-ge (n * 10 + digit_value digit) digits in
    grind (arith, nat_tests)

-- at the end
pub digits_end : (greatest n i : ℕ) (digits : List ℕ) → n ≤ greatest → length digits ≤ i → digits_up_to greatest n (drop i digits) ≡ Some n
unfolding digits_up_to
digits_end greatest n i digits small past = at_drop_all (digits_up_to greatest n) digits i past ∙ grind (arith, nat_tests)

-- at a byte that is no digit
pub digits_refused : (greatest n i : ℕ) (digits : List ℕ) → i < length digits → is_ascii_digit (get_or digits i 0) ≡ false → digits_up_to greatest n (drop i digits) ≡ None
unfolding digits_up_to
digits_refused greatest n i digits within other = at_drop_more (digits_up_to greatest n) digits i 0 within ∙ rw other refl

-- at a digit with which the number is too great, whatever follows
pub digits_great : (greatest n i : ℕ) (digits : List ℕ) → i < length digits → is_ascii_digit (get_or digits i 0) ≡ true → greatest < n * 10 + (get_or digits i 0 - 48) → digits_up_to greatest n (drop i digits) ≡ None
digits_great greatest n i digits within own h = at_drop_more (digits_up_to greatest n) digits i 0 within ∙ great greatest n (get_or digits i 0) (drop (i + 1) digits) (grind (arith, nat_tests))

-- at another digit
pub digits_more : (greatest n i : ℕ) (digits : List ℕ) → i < length digits → is_ascii_digit (get_or digits i 0) ≡ true → digits_up_to greatest n (drop i digits) ≡ digits_up_to greatest (n * 10 + (get_or digits i 0 - 48)) (drop (i + 1) digits)
unfolding digits_up_to
digits_more greatest n i digits within own = at_drop_more (digits_up_to greatest n) digits i 0 within ∙ grind (arith, nat_tests, common_steps)

pub ruleset digits_steps = (digits_end, digits_refused, digits_great, digits_more)

-- a word without a leading zero is read as digits, and no other
pub numeral_empty : (greatest : ℕ) (word : List ℕ) → length word < 1 → number_up_to greatest word ≡ None
unfolding number_up_to
numeral_empty greatest [] short = refl
numeral_empty greatest (byte ∷ word) short = absurd (omega arith)

pub numeral_zero : (greatest : ℕ) (word : List ℕ) → 2 ≤ length word → get_or word 0 0 ≡ 48 → number_up_to greatest word ≡ None
unfolding number_up_to
numeral_zero greatest [] long zero = absurd (omega arith)
numeral_zero greatest (byte ∷ []) long zero = absurd (omega arith)
numeral_zero greatest (byte ∷ next ∷ word) long zero = rw zero refl

pub numeral_short : (greatest : ℕ) (word : List ℕ) → 1 ≤ length word → length word < 2 → number_up_to greatest word ≡ digits_up_to greatest 0 word
unfolding number_up_to digits_up_to
numeral_short greatest [] some short = absurd (omega arith)
numeral_short greatest (byte ∷ []) some short = grind (arith, nat_tests)
numeral_short greatest (byte ∷ next ∷ word) some short = absurd (omega arith)

pub numeral_other : (greatest : ℕ) (word : List ℕ) → 1 ≤ length word → get_or word 0 0 ≢ 48 → number_up_to greatest word ≡ digits_up_to greatest 0 word
unfolding number_up_to digits_up_to
numeral_other greatest [] some other = absurd (omega arith)
numeral_other greatest (byte ∷ []) some other = grind (arith, nat_tests)
numeral_other greatest (byte ∷ next ∷ word) some other = grind (arith, nat_tests)

pub ruleset numeral_cases = (numeral_empty, numeral_zero, numeral_short, numeral_other)

-- a number under a smaller limit
pub narrow_none : (greatest less : ℕ) (word : List ℕ) → number_up_to greatest word ≡ None → less ≤ greatest → number_up_to less word ≡ None
unfolding number_up_to
narrow_none greatest less word none below = grind (arith, nat_tests)

narrow_some : (greatest less number : ℕ) (word : List ℕ) → number_up_to greatest word ≡ Some number → number ≤ less → number_up_to less word ≡ Some number
unfolding number_up_to
narrow_some greatest less number word some within = grind (arith, nat_tests)

narrow_great : (greatest less number : ℕ) (word : List ℕ) → number_up_to greatest word ≡ Some number → less < number → number_up_to less word ≡ None
unfolding number_up_to
narrow_great greatest less number word some great = grind (arith, nat_tests)

pub narrowed : {E : Type 0} (greatest less number : ℕ) (word : List ℕ) (r : Result ℕ E) → number_up_to greatest word ≡ Some number → OkIff r (number < less + 1) number → result_ok r ≡ number_up_to less word
narrowed greatest less number word (Ok n) some h = ap Some h.1 ∙ sym (narrow_some greatest less number word some (omega (arith, h.0)))
narrowed greatest less number word (Err e) some h = sym (narrow_great greatest less number word some (omega (arith, h)))
