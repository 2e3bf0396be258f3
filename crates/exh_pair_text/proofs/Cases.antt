-- Bytes as the code reads and writes them, by cases.
use Rattle.std.proofs.Common.{◌≡◌, ◌≢◌, ℕ, ◌-◌, ◌/◌, ◌<◌, ◌≤◌, List, [], ◌∷◌, ◌++◌, length, take, drop, get_or, unwrap_or, IsSome, Bool, true, false, cond, Option, Some, None, Ok, Err, inl, inr, refl, sym, subst, flat_map, arith}
use Rattle.std.specs.Prelude.{codes, nat_le}
use Rattle.std.specs.Option.{option_map}
use Rattle.std.specs.Int.{is_in_range}
use Rattle.std.specs.Char.{is_ascii_graphic}
use Rattle.std.specs.List.{list_all}
use Rattle.std.proofs.lemmas.Bool.{cases_lt, false≢true, ne_eqb}
use Rattle.std.proofs.lemmas.Bool.Decides.{nat_tests}
use Rattle.std.proofs.lemmas.List.{take_rest}
use Rattle.hex.specs.Hex.{encode_lower}
use Rattle.exh_page.specs.declared.key.TheConstants.{KEY_LIMIT}
use Rattle.exh_page.specs.declared.value.TheConstants.{VALUE_LIMIT}
use Rattle.exh_text.specs.ByteWord.{bytes_of_word, hash, hex_bytes}
use Rattle.exh_text.proofs.ByteWords.{word_hex, word_own}
use Rattle.exh_text.proofs.Hexadecimal.{decode_sized-hex_bytes}
use Rattle.exh_pair_text.specs.declared.spelled.Spelled.TheVariants.{Few, Many}
use Rattle.exh_pair_text.specs.declared.wrong_line.WrongLine.TheVariants.{EmptyKey, LongKey, LongValue}
use Rattle.exh_pair_text.specs.Bytes.{behind_slash, byte_text, first_byte, leading_text, return, two_digits}
use Rattle.exh_pair_text.specs.Formats.{tab}
use Rattle.exh_pair_text.specs.Reading.{key_of_bytes, value_of_bytes}
use Rattle.exh_pair_text.specs.Spelled.{spelled}

-- ---- reading: behind a backslash

pub slash_none : (text : List ℕ) → length text < 1 → behind_slash text ≡ None
unfolding behind_slash
slash_none [] short = refl
slash_none (mark ∷ text) short = absurd (omega arith)

pub slash_t : (text : List ℕ) → 1 ≤ length text → get_or text 0 0 ≡ 116 → behind_slash text ≡ Some (9, 2)
unfolding behind_slash
slash_t [] some is = absurd (omega arith)
slash_t (mark ∷ text) some is = rw is refl

pub slash_n : (text : List ℕ) → 1 ≤ length text → get_or text 0 0 ≡ 110 → behind_slash text ≡ Some (10, 2)
unfolding behind_slash
slash_n [] some is = absurd (omega arith)
slash_n (mark ∷ text) some is = rw is refl

pub slash_r : (text : List ℕ) → 1 ≤ length text → get_or text 0 0 ≡ 114 → behind_slash text ≡ Some (13, 2)
unfolding behind_slash
slash_r [] some is = absurd (omega arith)
slash_r (mark ∷ text) some is = rw is refl

pub slash_slash : (text : List ℕ) → 1 ≤ length text → get_or text 0 0 ≡ 92 → behind_slash text ≡ Some (92, 2)
unfolding behind_slash
slash_slash [] some is = absurd (omega arith)
slash_slash (mark ∷ text) some is = rw is refl

pub slash_x : (text : List ℕ) → 1 ≤ length text → get_or text 0 0 ≡ 120 → behind_slash text ≡ option_map (λ byte. (byte, 4)) (two_digits (take (length text - 1) (drop 1 text)))
unfolding behind_slash
slash_x [] some is = absurd (omega arith)
slash_x (mark ∷ text) some is = rw (take_rest, is) refl

pub slash_other : (text : List ℕ) → 1 ≤ length text → get_or text 0 0 ≢ 116 → get_or text 0 0 ≢ 110 → get_or text 0 0 ≢ 114 → get_or text 0 0 ≢ 92 → get_or text 0 0 ≢ 120 → behind_slash text ≡ None
unfolding behind_slash
slash_other [] some t n r slash x = absurd (omega arith)
slash_other (mark ∷ text) some t n r slash x = rw (ne_eqb mark 116 t, ne_eqb mark 110 n, ne_eqb mark 114 r, ne_eqb mark 92 slash, ne_eqb mark 120 x) refl

pub ruleset slash_cases = (slash_none, slash_t, slash_n, slash_r, slash_slash, slash_x, slash_other)

-- ---- reading: the first byte

pub first_hex : (text : List ℕ) (hex : Bool) → hex ≡ true → first_byte hex text ≡ option_map (λ byte. (byte, 2)) (two_digits text)
unfolding first_byte
first_hex text true is = refl
first_hex text false is = absurd (false≢true is)

pub first_none : (text : List ℕ) (hex : Bool) → hex ≡ false → length text < 1 → first_byte hex text ≡ None
unfolding first_byte
first_none [] true is short = absurd (false≢true (sym is))
first_none [] false is short = refl
first_none (byte ∷ text) hex is short = absurd (omega arith)

pub first_slash : (text : List ℕ) (hex : Bool) → hex ≡ false → 1 ≤ length text → get_or text 0 0 ≡ 92 → first_byte hex text ≡ behind_slash (take (length text - 1) (drop 1 text))
unfolding first_byte
first_slash text true is some slash = absurd (false≢true (sym is))
first_slash [] false is some slash = absurd (omega arith)
first_slash (byte ∷ text) false is some slash = rw (take_rest, slash) refl

pub first_tab : (text : List ℕ) (hex : Bool) → hex ≡ false → 1 ≤ length text → get_or text 0 0 ≡ 9 → first_byte hex text ≡ None
unfolding first_byte
first_tab text true is some tab = absurd (false≢true (sym is))
first_tab [] false is some tab = absurd (omega arith)
first_tab (byte ∷ text) false is some tab = rw tab refl

pub first_own : (text : List ℕ) (hex : Bool) → hex ≡ false → 1 ≤ length text → get_or text 0 0 ≢ 92 → get_or text 0 0 ≢ 9 → first_byte hex text ≡ Some (get_or text 0 0, 1)
unfolding first_byte
first_own text true is some slash tab = absurd (false≢true (sym is))
first_own [] false is some slash tab = absurd (omega arith)
first_own (byte ∷ text) false is some slash tab = rw (ne_eqb byte 92 slash, ne_eqb byte 9 tab) refl

pub ruleset first_cases = (first_hex, first_none, first_slash, first_tab, first_own)

-- ---- writing

pub text_tab : byte_text 9 ≡ codes "\\t"
unfolding byte_text
text_tab = refl

pub text_newline : byte_text 10 ≡ codes "\\n"
unfolding byte_text
text_newline = refl

pub text_return : byte_text 13 ≡ codes "\\r"
unfolding byte_text
text_return = refl

pub text_slash : byte_text 92 ≡ codes "\\\\"
unfolding byte_text
text_slash = refl

own_at : (own : Bool) (byte : ℕ) → own ≡ true → cond own (byte ∷ []) (codes "\\x" ++ encode_lower (byte ∷ [])) ≡ byte ∷ []
own_at true byte is = refl
own_at false byte is = absurd (false≢true is)

other_at : (own : Bool) (byte : ℕ) → own ≡ false → cond own (byte ∷ []) (codes "\\x" ++ encode_lower (byte ∷ [])) ≡ codes "\\x" ++ encode_lower (byte ∷ [])
other_at false byte is = refl
other_at true byte is = absurd (false≢true (sym is))

pub text_own : (byte : ℕ) → 32 ≤ byte → byte ≤ 126 → byte ≢ 92 → byte_text byte ≡ byte ∷ []
unfolding byte_text
text_own byte low high slash =
    let inside : is_in_range 32 126 byte ≡ true = grind (arith, nat_tests) in
    rw (ne_eqb byte 9 (λ is. absurd (omega arith)), ne_eqb byte 10 (λ is. absurd (omega arith)), ne_eqb byte 13 (λ is. absurd (omega arith)), ne_eqb byte 92 slash) (own_at (is_in_range 32 126 byte) byte inside)

pub text_other : (byte : ℕ) → byte ≢ 9 → byte ≢ 10 → byte ≢ 13 → byte ≢ 92 → is_in_range 32 126 byte ≡ false → byte_text byte ≡ codes "\\x" ++ encode_lower (byte ∷ [])
unfolding byte_text
text_other byte tab newline return slash outside =
    rw (ne_eqb byte 9 tab, ne_eqb byte 10 newline, ne_eqb byte 13 return, ne_eqb byte 92 slash) (other_at (is_in_range 32 126 byte) byte outside)

-- ---- writing: the bytes with which a line begins

pub leading_none : (bytes : List ℕ) → length bytes < 1 → leading_text bytes ≡ flat_map byte_text bytes
unfolding leading_text
leading_none [] short = refl
leading_none (byte ∷ bytes) short = absurd (omega arith)

pub leading_hash : (bytes : List ℕ) → 1 ≤ length bytes → get_or bytes 0 0 ≡ 35 → leading_text bytes ≡ codes "\\x23" ++ flat_map byte_text (take (length bytes - 1) (drop 1 bytes))
unfolding leading_text
leading_hash [] some is = absurd (omega arith)
leading_hash (byte ∷ bytes) some is = rw (take_rest, is) refl

pub hash_first : (bytes : List ℕ) → get_or bytes 0 0 ≡ 35 → 1 ≤ length bytes
hash_first [] is = absurd (omega (arith, is))
hash_first (byte ∷ bytes) is = omega arith

pub leading_other : (bytes : List ℕ) → 1 ≤ length bytes → get_or bytes 0 0 ≢ 35 → leading_text bytes ≡ flat_map byte_text bytes
unfolding leading_text
leading_other [] some other = absurd (omega arith)
leading_other (byte ∷ bytes) some other = rw (ne_eqb byte 35 other) refl

pub ruleset leading_cases = (leading_none, leading_hash, leading_other)

-- ---- keys and values

few_by : (few : Bool) (bytes value : List ℕ) → few ≡ nat_le (length bytes) VALUE_LIMIT → Few value ≡ cond few (Few bytes) (Many (length bytes)) → (value ≡ bytes) × (length bytes ≤ VALUE_LIMIT)
few_by true bytes value is same = (cc, grind (arith, nat_tests))
few_by false bytes value is same = cc

pub few_is : (bytes value : List ℕ) → Few value ≡ spelled bytes → (value ≡ bytes) × (length bytes ≤ VALUE_LIMIT)
unfolding spelled
few_is bytes value same = few_by (nat_le (length bytes) VALUE_LIMIT) bytes value refl same

many_by : (few : Bool) (bytes : List ℕ) (count : ℕ) → few ≡ nat_le (length bytes) VALUE_LIMIT → Many count ≡ cond few (Few bytes) (Many (length bytes)) → (count ≡ length bytes) × (VALUE_LIMIT < length bytes)
many_by true bytes count is same = cc
many_by false bytes count is same = (cc, grind (arith, nat_tests))

pub many_is : (bytes : List ℕ) (count : ℕ) → Many count ≡ spelled bytes → (count ≡ length bytes) × (VALUE_LIMIT < length bytes)
unfolding spelled
many_is bytes count same = many_by (nat_le (length bytes) VALUE_LIMIT) bytes count refl same

pub spelled_few : (bytes : List ℕ) → length bytes ≤ VALUE_LIMIT → spelled bytes ≡ Few bytes
unfolding spelled
spelled_few bytes few = grind (arith, nat_tests)

pub spelled_many : (bytes : List ℕ) → VALUE_LIMIT < length bytes → spelled bytes ≡ Many (length bytes)
unfolding spelled
spelled_many bytes many = grind (arith, nat_tests)

pub key_none : (bytes : List ℕ) → length bytes ≡ 0 → key_of_bytes bytes ≡ Err EmptyKey
unfolding key_of_bytes
key_none bytes none = grind (arith, nat_tests)

pub key_kept : (bytes : List ℕ) → 1 ≤ length bytes → length bytes ≤ KEY_LIMIT → key_of_bytes bytes ≡ Ok bytes
unfolding key_of_bytes
key_kept bytes some limit = grind (arith, nat_tests)

pub key_long : (bytes : List ℕ) → KEY_LIMIT < length bytes → key_of_bytes bytes ≡ Err (LongKey (length bytes))
unfolding key_of_bytes
key_long bytes long = grind (arith, nat_tests)

pub value_kept : (bytes : List ℕ) → length bytes ≤ VALUE_LIMIT → value_of_bytes bytes ≡ Ok bytes
unfolding value_of_bytes
value_kept bytes limit = grind (arith, nat_tests)

pub value_long : (bytes : List ℕ) → VALUE_LIMIT < length bytes → value_of_bytes bytes ≡ Err (LongValue (length bytes))
unfolding value_of_bytes
value_long bytes long = grind (arith, nat_tests)

-- ---- words

own_by : (graphic : Bool) (word : List ℕ) (found : Option (List ℕ)) → found ≡ cond graphic (Some word) None → IsSome found → length (unwrap_or found []) ≡ length word
own_by true word found is some = rw is refl
own_by false word None is some = absurd (false≢true some)
own_by false word (Some bytes) is some = cc

pub own_length : (word : List ℕ) → IsSome (bytes_of_word word) → 1 ≤ length word → get_or word 0 0 ≢ hash → length (unwrap_or (bytes_of_word word) []) ≡ length word
own_length word some first other = own_by (list_all is_ascii_graphic word) word (bytes_of_word word) (word_own word first other) some

pub empty_length : (word : List ℕ) → IsSome (bytes_of_word word) → length word < 1 → length (unwrap_or (bytes_of_word word) []) ≡ length word
unfolding bytes_of_word
empty_length [] some short = absurd (false≢true some)
empty_length (byte ∷ word) some short = absurd (omega arith)

hex_by : (digits : List ℕ) (found : Option (List ℕ)) → found ≡ hex_bytes digits → IsSome found → length (unwrap_or found []) ≡ length digits / 2
hex_by digits found is some =
    rw is ((decode_sized-hex_bytes digits (length digits / 2) (subst (λ f. IsSome f) is some) refl).1)

pub hex_length : (word : List ℕ) → IsSome (bytes_of_word word) → 1 ≤ length word → get_or word 0 0 ≡ hash → length (unwrap_or (bytes_of_word word) []) ≡ length (take (length word - 1) (drop 1 word)) / 2
hex_length word some first mark = hex_by (take (length word - 1) (drop 1 word)) (bytes_of_word word) (word_hex word first mark) some

pub ruleset length_cases = (own_length, empty_length, hex_length)

-- more bytes than a value has
pub above : (count : ℕ) → (count ≤ VALUE_LIMIT → ⊥) → VALUE_LIMIT < count
above count none = elim (cases_lt VALUE_LIMIT count) [
  | inl more ↦ more
  | inr few ↦ absurd (none (omega arith))
]

pub above_key : (count : ℕ) → 1 ≤ count → ((1 ≤ count) × (count ≤ KEY_LIMIT) → ⊥) → KEY_LIMIT < count
above_key count some none = elim (cases_lt KEY_LIMIT count) [
  | inl more ↦ more
  | inr few ↦ absurd (none (some, omega arith))
]
