-- The text of a pair's object: how it begins, that it is UTF-8, and that it is one line.
use Rattle.std.proofs.Common.{◌≡◌, ◌≢◌, ℕ, zero, suc, ◌<◌, List, [], ◌∷◌, ◌++◌, Bool, true, false, cond, ◌&&◌, nat_lt, IsUtf8, inl, inr, refl, ◌∙◌, arith}
use Rattle.std.specs.Prelude.{nat_eq, not, ⊤}
use Rattle.std.specs.Char.{is_ascii_graphic}
use Rattle.std.specs.List.{AllByRecursion, list_all}
use Rattle.std.proofs.lemmas.Bool.{and_parts, cases_eq, cases_lt}
use Rattle.std.proofs.lemmas.Bool.Decides.{nat_tests}
use Rattle.std.proofs.lemmas.List.Folds.{list_all-append}
use Rattle.std.proofs.lemmas.Str.{IsUtf8-append, IsUtf8-nil}
use Rattle.hex.specs.Hex.{encode_lower}
use Rattle.json.specs.Json.{Json, member, no_members, object, string}
use Rattle.json.specs.Print.{begins, ends, escape, escape_byte, print, print_from, quoted, separator, token_text}
use Rattle.json.specs.Token.{Token}
use Rattle.json.specs.Tree.{json_tokens}
use Rattle.json.proofs.Printed.Strings.{escape_byte_plain}
use Rattle.json.proofs.Printed.Utf8.{IsUtf8-are_ascii, IsUtf8-key, IsUtf8-quoted, IsUtf8-separator, are_ascii}
use Rattle.exh_pair_text.specs.declared.field.Field.TheVariants.{Key, Value}
use Rattle.exh_pair_text.specs.Json.{name_by, string_by}
use Rattle.exh_pair_text.proofs.Again.{hex_graphic}

-- an object whose fields have digits or not
abbrev pub object_by : Bool → Bool → List ℕ → List ℕ → Json
object_by a b key value = object (member (name_by a Key) (string (string_by a key)) (member (name_by b Value) (string (string_by b value)) no_members))

abbrev pub words_by : Bool → Bool → List ℕ → List ℕ → List ℕ
words_by a b key value = print (json_tokens (object_by a b key value))

-- ---- how it begins

pub begins_so : (a b : Bool) (key value : List ℕ) → (rest : List ℕ) × (words_by a b key value ≡ 123 ∷ 34 ∷ 107 ∷ rest)
unfolding print_from escape_byte
begins_so true b key value = (_, refl)
begins_so false b key value = (_, refl)

-- ---- UTF-8

graphic_ascii : (text : List ℕ) → list_all is_ascii_graphic text ≡ true → are_ascii text ≡ true
graphic_ascii [] all = refl
graphic_ascii (byte ∷ text) all =
    let rest : list_all is_ascii_graphic text ≡ true = grind (arith, nat_tests) in
    let low : nat_lt byte 128 ≡ true = grind (arith, nat_tests) in
    rw (low, graphic_ascii text rest) refl

pub digits_utf8 : (bytes : List ℕ) → AllByRecursion (λ byte. byte < 256) bytes → IsUtf8 (encode_lower bytes)
digits_utf8 bytes all = IsUtf8-are_ascii (encode_lower bytes) (graphic_ascii (encode_lower bytes) (hex_graphic bytes all))

abbrev AreUtf8 : List Token → Type 0
AreUtf8 [] = ⊤
AreUtf8 (token ∷ tokens) = IsUtf8 (token_text token) × AreUtf8 tokens

printed_utf8 : (after : Bool) (tokens : List Token) → AreUtf8 tokens → IsUtf8 (print_from after tokens)
unfolding print_from
printed_utf8 after [] all = IsUtf8-nil
printed_utf8 after (token ∷ tokens) all =
    IsUtf8-append (separator after token) (token_text token ++ print_from (ends token) tokens) (IsUtf8-separator after token)
    (IsUtf8-append (token_text token) (print_from (ends token) tokens) all.0 (printed_utf8 (ends token) tokens all.1))

key_utf8 : (a : Bool) → IsUtf8 (token_text (Token.key (name_by a Key)))
key_utf8 true = IsUtf8-key _ (IsUtf8-are_ascii (name_by true Key) refl)
key_utf8 false = IsUtf8-key _ (IsUtf8-are_ascii (name_by false Key) refl)

value_utf8 : (b : Bool) → IsUtf8 (token_text (Token.key (name_by b Value)))
value_utf8 true = IsUtf8-key _ (IsUtf8-are_ascii (name_by true Value) refl)
value_utf8 false = IsUtf8-key _ (IsUtf8-are_ascii (name_by false Value) refl)

pub words_utf8 : (a b : Bool) (key value : List ℕ) → IsUtf8 (string_by a key) → IsUtf8 (string_by b value) → IsUtf8 (words_by a b key value)
words_utf8 a b key value k v =
    printed_utf8 false (json_tokens (object_by a b key value))
    (IsUtf8-are_ascii (123 ∷ []) refl, (key_utf8 a, (IsUtf8-quoted _ k, (value_utf8 b, (IsUtf8-quoted _ v, (IsUtf8-are_ascii (125 ∷ []) refl, tt))))))

-- ---- one line

abbrev is_other : ℕ → Bool
is_other byte = not (nat_eq byte 10)

abbrev pub has_none : List ℕ → Bool
has_none text = list_all is_other text

none_append : (front text : List ℕ) → has_none front ≡ true → has_none text ≡ true → has_none (front ++ text) ≡ true
none_append front text f t = list_all-append is_other front text ∙ rw (f, t) refl

abbrev each_below : ℕ → Bool
each_below zero = true
each_below (suc n) = has_none (escape_byte n) && each_below n

one_below : (n : ℕ) → each_below n ≡ true → (byte : ℕ) → byte < n → has_none (escape_byte byte) ≡ true
one_below zero all byte within = absurd (omega arith)
one_below (suc n) all byte within =
    let parts = and_parts _ _ all in
    elim (cases_eq byte n) [ inl same ↦ rw same parts.0 | inr other ↦ one_below n parts.1 byte (omega arith) ]

low_none : each_below 128 ≡ true
unfolding escape_byte
low_none = refl

byte_none : (byte : ℕ) → has_none (escape_byte byte) ≡ true
byte_none byte = elim (cases_lt byte 128) [
  | inl low ↦ one_below 128 low_none byte low
  | inr high ↦
      let other : is_other byte ≡ true = grind (arith, nat_tests) in
      rw (escape_byte_plain byte (λ is. omega arith) (λ is. omega arith) (omega arith), other) refl
]

escape_none : (text : List ℕ) → has_none (escape text) ≡ true
escape_none [] = refl
escape_none (byte ∷ text) = none_append (escape_byte byte) (escape text) (byte_none byte) (escape_none text)

quoted_none : (text : List ℕ) → has_none (quoted text) ≡ true
quoted_none text = none_append (escape text) (34 ∷ []) (escape_none text) refl

key_none : (text : List ℕ) → has_none (quoted text ++ 58 ∷ []) ≡ true
key_none text = none_append (quoted text) (58 ∷ []) (quoted_none text) refl

abbrev HaveNone : List Token → Type 0
HaveNone [] = ⊤
HaveNone (token ∷ tokens) = (has_none (token_text token) ≡ true) × HaveNone tokens

comma_none : (some : Bool) → has_none (cond some (44 ∷ []) []) ≡ true
comma_none true = refl
comma_none false = refl

printed_none : (after : Bool) (tokens : List Token) → HaveNone tokens → has_none (print_from after tokens) ≡ true
unfolding print_from
printed_none after [] all = refl
printed_none after (token ∷ tokens) all =
    none_append (separator after token) (token_text token ++ print_from (ends token) tokens) (comma_none (after && begins token))
    (none_append (token_text token) (print_from (ends token) tokens) all.0 (printed_none (ends token) tokens all.1))

words_none : (a b : Bool) (key value : List ℕ) → has_none (words_by a b key value) ≡ true
words_none a b key value =
    printed_none false (json_tokens (object_by a b key value))
    (refl, (key_none _, (quoted_none _, (key_none _, (quoted_none _, (refl, tt))))))

other_from : (text : List ℕ) → has_none text ≡ true → AllByRecursion (λ byte. byte ≢ 10) text
other_from [] all = tt
other_from (byte ∷ text) all =
    let rest : has_none text ≡ true = grind (arith, nat_tests) in
    let other : byte ≢ 10 = grind (arith, nat_tests) in
    (other, other_from text rest)

pub words_other : (a b : Bool) (key value : List ℕ) → AllByRecursion (λ byte. byte ≢ 10) (words_by a b key value)
words_other a b key value = other_from (words_by a b key value) (words_none a b key value)
