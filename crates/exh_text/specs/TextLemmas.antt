-- What is printed is read again: for proofs of the crates above.
use Rattle.std.proofs.Common.{◌≡◌, ◌≢◌, ℕ, zero, suc, ◌/◌, ◌%◌, ◌^◌, ◌<◌, ◌≤◌, List, [], ◌∷◌, ◌++◌, length, map, slice_index, get_or, Bool, true, false, ◌&&◌, All, cond, eqb, Some, Result, Ok, Err, OnOk, OnErr, decimal, lit<, inl, inr, refl, sym, ap, ◌∙◌, arith}
use Rattle.std.specs.Char.{is_ascii_graphic, digit_char}
use Rattle.std.specs.List.{list_all, AllByRecursion, slice_split, onto_first}
use Rattle.std.specs.Str.{all_ascii_digits}
use Rattle.std.specs.Str.Parse.{digits_value}
use Rattle.std.proofs.lemmas.Bool.{false≢true, and_parts, cases_eq, eqb-true}
use Rattle.std.proofs.lemmas.Bool.Decides.{nat_tests}
use Rattle.std.proofs.lemmas.List.{append-nil, append_assoc, length-append}
use Rattle.std.proofs.lemmas.List.Splits.{slice_split_none, length-slice_split}
use Rattle.std.proofs.lemmas.Option.{cond_some}
use Rattle.std.proofs.lemmas.Fmt.{decimal_digit, decimal_nonempty, first_decimal, digits_decimal, digits_value-decimal, decimal-digits_value, decimal_injective}
use Rattle.std.proofs.lemmas.Str.Parse.{IsNumeralModel, numerals_by_value, tells_all_ascii_digits}
use Rattle.hex.specs.Hex.{lower_digits, encode_lower, encode_with}
use Rattle.exh_prefix.specs.Prefix.{bit_digit, prefix_text}
use Rattle.exh_text.specs.ByteWord.{hash, hex_digit, hex_bytes, bytes_of_word}
use Rattle.exh_text.specs.TextLines.{parts_at, space, words_of}
use Rattle.exh_text.specs.Numbers.{number_up_to, is_numeral}
use Rattle.exh_text.specs.Printing.{AppendsFrontOf, Keeps, is_plain, printed, place_text}

-- ---- the digits that are printed

is_digit : ℕ → Bool
is_digit value = eqb (slice_index lower_digits value) (digit_char value)

are_digits : ℕ → Bool
are_digits zero = true
are_digits (suc n) = is_digit n && are_digits n

digit_below : (n value : ℕ) → are_digits n ≡ true → value < n → slice_index lower_digits value ≡ digit_char value
unfolding are_digits is_digit
digit_below zero value all below = absurd (omega arith)
digit_below (suc n) value all below =
    let parts = and_parts (is_digit n) (are_digits n) all in
    elim (cases_eq value n) [
      | inl last ↦ rw last (eqb-true (slice_index lower_digits n) (digit_char n) parts.0)
      | inr other ↦ digit_below n value parts.1 (omega arith)
    ]

pub digit_is : (value : ℕ) → value < 16 → slice_index lower_digits value ≡ digit_char value
unfolding are_digits is_digit
digit_is value small = digit_below 16 value refl small

-- ---- bytes

digit_again : (value : ℕ) → value < 16 → hex_digit (digit_char value) ≡ Some value
unfolding hex_digit
digit_again value small = grind (arith, nat_tests)

hex_again : (bytes : List ℕ) → AllByRecursion (λ byte. byte < 256) bytes → hex_bytes (encode_lower bytes) ≡ Some bytes
unfolding encode_with
hex_again [] all = refl
hex_again (byte ∷ bytes) all =
    let high : byte / 16 < 16 = omega (arith, all.0) in
    let low : byte % 16 < 16 = omega arith in
    rw (digit_is (byte / 16) high, digit_is (byte % 16) low, digit_again (byte / 16) high, digit_again (byte % 16) low, hex_again bytes all.1) (ap (λ b. Some (b ∷ bytes)) (omega arith))

plain_again : (bytes : List ℕ) → is_plain bytes ≡ true → bytes_of_word bytes ≡ Some bytes
unfolding bytes_of_word
plain_again [] plain = absurd (false≢true plain)
plain_again (byte ∷ bytes) plain = grind (arith, nat_tests)

again_at : (plain : Bool) (bytes : List ℕ) → plain ≡ is_plain bytes → AllByRecursion (λ byte. byte < 256) bytes → bytes_of_word (cond plain bytes (hash ∷ encode_lower bytes)) ≡ Some bytes
unfolding bytes_of_word
again_at true bytes e all = plain_again bytes (sym e)
again_at false bytes e all = hex_again bytes all

pub printed_again : (bytes : List ℕ) → AllByRecursion (λ byte. byte < 256) bytes → bytes_of_word (printed bytes) ≡ Some bytes
unfolding printed
printed_again bytes all = again_at _ bytes refl all

-- ---- words

parted : (cuts : Bool) (byte : ℕ) (xs ys : List (List ℕ)) → 0 < length xs → cond cuts ([] ∷ (xs ++ ys)) (onto_first byte (xs ++ ys)) ≡ cond cuts ([] ∷ xs) (onto_first byte xs) ++ ys
parted true byte xs ys some = refl
parted false byte [] ys some = absurd (omega arith)
parted false byte (x ∷ xs) ys some = refl

slice_split-append : (p : ℕ → Bool) (front : List ℕ) (byte : ℕ) (rest : List ℕ) → p byte ≡ true → slice_split p (front ++ byte ∷ rest) ≡ slice_split p front ++ slice_split p rest
slice_split-append p [] byte rest cuts = rw cuts refl
slice_split-append p (b ∷ front) byte rest cuts =
    ap (λ parts. cond (p b) ([] ∷ parts) (onto_first b parts)) (slice_split-append p front byte rest cuts)
    ∙ parted (p b) b (slice_split p front) (slice_split p rest) (omega (arith, length-slice_split p front))

pub parts_at-append : (byte : ℕ) (front rest : List ℕ) → parts_at byte (front ++ byte ∷ rest) ≡ parts_at byte front ++ parts_at byte rest
unfolding parts_at
parts_at-append byte front rest = slice_split-append (λ b. eqb b byte) front byte rest (grind (arith, nat_tests))

pub parts_at-one : (byte : ℕ) (bytes : List ℕ) → All (λ b. b ≢ byte) bytes → parts_at byte bytes ≡ bytes ∷ []
unfolding parts_at
parts_at-one byte bytes all = slice_split_none (λ b. eqb b byte) bytes (λ k d within. let other = all k d within in grind (arith, nat_tests))

digit_graphic : (value : ℕ) → value < 16 → is_ascii_graphic (digit_char value) ≡ true
digit_graphic value small = grind (arith, nat_tests)

hex_graphic : (bytes : List ℕ) → AllByRecursion (λ byte. byte < 256) bytes → list_all is_ascii_graphic (encode_lower bytes) ≡ true
unfolding encode_with
hex_graphic [] all = refl
hex_graphic (byte ∷ bytes) all =
    let high : byte / 16 < 16 = omega (arith, all.0) in
    let low : byte % 16 < 16 = omega arith in
    rw (digit_is (byte / 16) high, digit_is (byte % 16) low, digit_graphic (byte / 16) high, digit_graphic (byte % 16) low, hex_graphic bytes all.1) refl

pub one_part : (bytes : List ℕ) → list_all is_ascii_graphic bytes ≡ true → parts_at space bytes ≡ bytes ∷ []
unfolding parts_at
one_part [] graphic = refl
one_part (byte ∷ bytes) graphic =
    let other : eqb byte space ≡ false = grind (arith, nat_tests) in
    let rest : list_all is_ascii_graphic bytes ≡ true = grind (arith, nat_tests) in
    rw (other, one_part bytes rest) refl

one_word : (bytes : List ℕ) → list_all is_ascii_graphic bytes ≡ true → 0 < length bytes → words_of bytes ≡ Some (bytes ∷ [])
unfolding words_of
one_word bytes graphic some = rw (one_part bytes graphic) (grind (arith, nat_tests))

plain_word : (bytes : List ℕ) → is_plain bytes ≡ true → words_of bytes ≡ Some (bytes ∷ [])
plain_word [] plain = absurd (false≢true plain)
plain_word (byte ∷ bytes) plain = one_word (byte ∷ bytes) (grind (arith, nat_tests)) (omega arith)

word_at : (plain : Bool) (bytes : List ℕ) → plain ≡ is_plain bytes → AllByRecursion (λ byte. byte < 256) bytes → words_of (cond plain bytes (hash ∷ encode_lower bytes)) ≡ Some (cond plain bytes (hash ∷ encode_lower bytes) ∷ [])
word_at true bytes e all = plain_word bytes (sym e)
word_at false bytes e all = one_word (hash ∷ encode_lower bytes) (hex_graphic bytes all) (omega arith)

pub printed_word : (bytes : List ℕ) → AllByRecursion (λ byte. byte < 256) bytes → words_of (printed bytes) ≡ Some (printed bytes ∷ [])
unfolding printed
printed_word bytes all = word_at _ bytes refl all

-- ---- numbers

own : IsNumeralModel (λ digits. all_ascii_digits digits ≡ true) (digits_value 10)
own = numerals_by_value _ tells_all_ascii_digits

numeral_from : (word : List ℕ) → all_ascii_digits word ≡ true → 48 < get_or word 0 0 → is_numeral word ≡ true
numeral_from [] digits first = absurd (omega arith)
numeral_from (byte ∷ []) digits first = grind (arith, nat_tests)
numeral_from (byte ∷ next ∷ word) digits first = grind (arith, nat_tests)

numeral_to : (word : List ℕ) → is_numeral word ≡ true → (all_ascii_digits word ≡ true) × (0 < length word) × (get_or word 0 0 ≡ 48 → length word ≡ 1)
numeral_to [] numeral = absurd (false≢true numeral)
numeral_to (byte ∷ []) numeral = (grind (arith, nat_tests), omega arith, λ zero. refl)
numeral_to (byte ∷ next ∷ word) numeral = (grind (arith, nat_tests), omega arith, λ zero. grind (arith, nat_tests))

is_numeral-decimal : (number : ℕ) → number < 2 ^ 64 → is_numeral (decimal number) ≡ true
is_numeral-decimal zero small = rw (decimal_digit 0 (lit< tt)) refl
is_numeral-decimal (suc number) small = numeral_from (decimal (suc number)) (digits_decimal own (suc number) small) (first_decimal (suc number) (omega arith) small)

pub number_again : (greatest number : ℕ) → greatest < 2 ^ 64 → number ≤ greatest → number_up_to greatest (decimal number) ≡ Some number
unfolding number_up_to
number_again greatest number wide small =
    rw (is_numeral-decimal number (omega arith), digits_value-decimal own number (omega arith)) (grind (arith, nat_tests))

pub number_alone : (greatest number : ℕ) (word : List ℕ) → greatest < 2 ^ 64 → number_up_to greatest word ≡ Some number → word ≡ decimal number
unfolding number_up_to
number_alone greatest number word wide read =
    let found = cond_some _ _ _ read in
    let within : digits_value 10 word ≤ greatest = grind (arith, nat_tests) in
    let numeral = numeral_to word (grind (arith, nat_tests)) in
    sym (decimal-digits_value own word numeral.0 numeral.1 numeral.2 (omega arith)) ∙ ap decimal found.1

graphic_digits : (digits : List ℕ) → all_ascii_digits digits ≡ true → list_all is_ascii_graphic digits ≡ true
graphic_digits [] all = refl
graphic_digits (digit ∷ digits) all = let rest = graphic_digits digits (grind (arith, nat_tests)) in grind (arith, nat_tests)

pub number_word : (number : ℕ) → number < 2 ^ 64 → words_of (decimal number) ≡ Some (decimal number ∷ [])
number_word number small = one_word (decimal number) (graphic_digits (decimal number) (digits_decimal own number small)) (decimal_nonempty number small)

-- ---- words behind each other

pub decimal_graphic : (number : ℕ) → number < 2 ^ 64 → list_all is_ascii_graphic (decimal number) ≡ true
decimal_graphic number small = graphic_digits (decimal number) (digits_decimal own number small)

printed_graphic_at : (plain : Bool) (bytes : List ℕ) → plain ≡ is_plain bytes → AllByRecursion (λ byte. byte < 256) bytes → list_all is_ascii_graphic (cond plain bytes (hash ∷ encode_lower bytes)) ≡ true
printed_graphic_at true [] e all = refl
printed_graphic_at true (byte ∷ bytes) e all = grind (arith, nat_tests)
printed_graphic_at false bytes e all = hex_graphic bytes all

pub printed_graphic : (bytes : List ℕ) → AllByRecursion (λ byte. byte < 256) bytes → list_all is_ascii_graphic (printed bytes) ≡ true
unfolding printed
printed_graphic bytes all = printed_graphic_at _ bytes refl all

-- the first word, and those behind it
pub parts_at-word : (word rest : List ℕ) → list_all is_ascii_graphic word ≡ true → parts_at space (word ++ space ∷ rest) ≡ word ∷ parts_at space rest
parts_at-word word rest graphic = parts_at-append space word rest ∙ ap (λ (words : List (List ℕ)). words ++ parts_at space rest) (one_part word graphic)

-- ---- places

digits_part : (digits : List ℕ) → all_ascii_digits digits ≡ true → parts_at 47 digits ≡ digits ∷ []
unfolding parts_at
digits_part [] all = refl
digits_part (digit ∷ digits) all =
    let other : eqb digit 47 ≡ false = grind (arith, nat_tests) in
    let rest : all_ascii_digits digits ≡ true = grind (arith, nat_tests) in
    rw (other, digits_part digits rest) refl

-- the two numbers of a place
pub parts_at-place : (ward number : ℕ) → ward < 2 ^ 64 → number < 2 ^ 64 → parts_at 47 (place_text ward number) ≡ decimal ward ∷ decimal number ∷ []
parts_at-place ward number small other =
    parts_at-append 47 (decimal ward) (decimal number) ∙ rw (digits_part (decimal ward) (digits_decimal own ward small), digits_part (decimal number) (digits_decimal own number other)) refl

graphic-append : (front rest : List ℕ) → list_all is_ascii_graphic front ≡ true → list_all is_ascii_graphic rest ≡ true → list_all is_ascii_graphic (front ++ rest) ≡ true
graphic-append [] rest all more = more
graphic-append (byte ∷ front) rest all more = let tail = graphic-append front rest (grind (arith, nat_tests)) more in grind (arith, nat_tests)

pub place_graphic : (ward number : ℕ) → ward < 2 ^ 64 → number < 2 ^ 64 → list_all is_ascii_graphic (place_text ward number) ≡ true
place_graphic ward number small other = graphic-append (decimal ward) (47 ∷ decimal number) (decimal_graphic ward small) (decimal_graphic number other)

pub place_word : (ward number : ℕ) → ward < 2 ^ 64 → number < 2 ^ 64 → words_of (place_text ward number) ≡ Some (place_text ward number ∷ [])
place_word ward number small other =
    one_word (place_text ward number) (place_graphic ward number small other) (omega (arith, length-append (decimal ward) (47 ∷ decimal number)))

pub place_told : (ward number ward' number' : ℕ) → ward < 2 ^ 64 → number < 2 ^ 64 → ward' < 2 ^ 64 → number' < 2 ^ 64 → place_text ward number ≡ place_text ward' number' → (ward ≡ ward') × (number ≡ number')
place_told ward number ward' number' w n w' n' same =
    let parts : decimal ward ∷ decimal number ∷ [] ≡ decimal ward' ∷ decimal number' ∷ [] = sym (parts_at-place ward number w n) ∙ ap (parts_at 47) same ∙ parts_at-place ward' number' w' n' in
    let wards : decimal ward ≡ decimal ward' = cc in
    let numbers : decimal number ≡ decimal number' = cc in
    (decimal_injective ward ward' w w' wards, decimal_injective number number' n n' numbers)

-- ---- prefixes

bits_graphic : (bits : List Bool) → list_all is_ascii_graphic (map bit_digit bits) ≡ true
bits_graphic [] = refl
bits_graphic (true ∷ bits) = bits_graphic bits
bits_graphic (false ∷ bits) = bits_graphic bits

pub prefix_graphic : (bits : List Bool) → list_all is_ascii_graphic (prefix_text bits) ≡ true
prefix_graphic [] = refl
prefix_graphic (bit ∷ bits) = bits_graphic (bit ∷ bits)

pub prefix_word : (bits : List Bool) → words_of (prefix_text bits) ≡ Some (prefix_text bits ∷ [])
prefix_word [] = one_word (prefix_text []) refl (omega arith)
prefix_word (bit ∷ bits) = one_word (prefix_text (bit ∷ bits)) (bits_graphic (bit ∷ bits)) (omega arith)

-- the bits that the digits 1 and 0 spell
abbrev spelled_bits : List ℕ → List Bool
spelled_bits digits = map (λ digit. eqb digit 49) digits

bits_again : (bits : List Bool) → spelled_bits (map bit_digit bits) ≡ bits
bits_again [] = refl
bits_again (true ∷ bits) = ap (λ (rest : List Bool). true ∷ rest) (bits_again bits)
bits_again (false ∷ bits) = ap (λ (rest : List Bool). false ∷ rest) (bits_again bits)

-- the prefix that a word is the text of: no bits where it begins with a dash
abbrev pub prefix_of_text : List ℕ → List Bool
prefix_of_text text = cond (eqb (get_or text 0 0) 45) [] (spelled_bits text)

pub prefix_again : (bits : List Bool) → prefix_of_text (prefix_text bits) ≡ bits
prefix_again [] = refl
prefix_again (true ∷ bits) = bits_again (true ∷ bits)
prefix_again (false ∷ bits) = bits_again (false ∷ bits)

pub prefix_told : (bits others : List Bool) → prefix_text bits ≡ prefix_text others → bits ≡ others
prefix_told bits others same = sym (prefix_again bits) ∙ ap prefix_of_text same ∙ prefix_again others

-- ---- one text behind another

pub added_behind : {T E : Type 0} (result : Result T E) (old middle new text more : List ℕ) → middle ≡ old ++ text → OnOk result (new ≡ middle ++ more) → OnOk result (new ≡ old ++ (text ++ more))
added_behind (Ok made) old middle new text more first second = second ∙ ap (λ front. front ++ more) first ∙ append_assoc old text more
added_behind (Err fault) old middle new text more first second = tt

-- ---- what was there is kept

pub keeps_all : (old : List ℕ) → Keeps old old
keeps_all old = record { added = []; is = sym (append-nil old) }

pub keeps_same : (old new : List ℕ) → new ≡ old → Keeps old new
keeps_same old new same = record { added = []; is = same ∙ sym (append-nil old) }

pub keeps_added : (old new text : List ℕ) → new ≡ old ++ text → Keeps old new
keeps_added old new text is = record { added = text; is = is }

pub keeps_more : (old middle new : List ℕ) → Keeps old middle → Keeps middle new → Keeps old new
keeps_more old middle new first second = record { added = first.added ++ second.added; is = second.is ∙ ap (λ front. front ++ second.added) first.is ∙ append_assoc old first.added second.added }

-- a text was added, or nothing
pub keeps_either : {T E : Type 0} (result : Result T E) (old new text : List ℕ) → OnOk result (new ≡ old ++ text) → OnErr result (new ≡ old) → Keeps old new
keeps_either (Ok made) old new text ok err = keeps_added old new text ok
keeps_either (Err fault) old new text ok err = keeps_same old new err

-- or a beginning of it
pub keeps_front : {T E : Type 0} (result : Result T E) (old new text : List ℕ) → OnOk result (new ≡ old ++ text) → OnErr result (AppendsFrontOf text old new) → Keeps old new
keeps_front (Ok made) old new text ok err = keeps_added old new text ok
keeps_front (Err fault) old new text ok err = record { added = err.front; is = err.appended }
