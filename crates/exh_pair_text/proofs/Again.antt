-- What is written of bytes is read again, and has neither newlines nor what parts a key from a value.
use Rattle.std.proofs.Common.{◌≡◌, ◌≢◌, ℕ, ◌+◌, ◌/◌, ◌%◌, ◌<◌, ◌≤◌, List, [], ◌∷◌, ◌++◌, length, slice_index, Bool, true, false, Some, Ok, cond, inl, inr, refl, sym, ap, ◌∙◌, flat_map, length-append, arith}
use Rattle.std.specs.Int.{is_in_range}
use Rattle.std.specs.List.{AllByRecursion, list_all}
use Rattle.std.specs.Char.{is_ascii_graphic}
use Rattle.std.proofs.Math.Seq.{drop-append_seam}
use Rattle.std.proofs.lemmas.Bool.{cases_eq, ne_eqb}
use Rattle.std.proofs.lemmas.Bool.Decides.{nat_tests}
use Rattle.hex.specs.Hex.{encode_lower, encode_with, lower_digits}
use Rattle.hex.proofs.HexLemmas.{IsDigits-lower_digits}
use Rattle.exh_pair_text.specs.Bytes.{backslash, behind_slash, byte_text, first_byte, leading_text, return, two_digits}
use Rattle.exh_pair_text.specs.Formats.{tab}
use Rattle.exh_pair_text.specs.Lines.{field_text, key_text}
use Rattle.exh_pair_text.specs.Reading.{bytes_from, field_bytes}
use Rattle.exh_pair_text.specs.declared.field.Field.{Field}
use Rattle.exh_pair_text.specs.declared.separated.Separated.{Separated}
use Rattle.exh_pair_text.specs.declared.separated.Separated.TheVariants.{Words, Tsv}
use Rattle.exh_text.specs.Printing.{printed}
use Rattle.exh_text.specs.TextLemmas.{digit_is, printed_again, printed_graphic}
use Rattle.std.proofs.lemmas.List.Folds.{list_all-append}
use Rattle.std.specs.Prelude.{codes}
use Rattle.exh_pair_text.proofs.Steps.{behind, byte_step}

-- ---- one byte

-- its two digits
digits_again : (byte : ℕ) (more : List ℕ) → byte < 256 → two_digits (encode_lower (byte ∷ []) ++ more) ≡ Some byte
unfolding encode_with
digits_again byte more small =
    let high : byte / 16 < 16 = omega arith in
    let low : byte % 16 < 16 = omega arith in
    rw (IsDigits-lower_digits (byte / 16) high, IsDigits-lower_digits (byte % 16) low) (ap Some (omega arith))

pub hex_again : (byte : ℕ) (more : List ℕ) → byte < 256 → first_byte true (encode_lower (byte ∷ []) ++ more) ≡ Some (byte, 2)
unfolding first_byte
hex_again byte more small = rw (digits_again byte more small) refl

-- of one that has no letter
own_again : (own : Bool) (byte : ℕ) (more : List ℕ) → byte < 256 → byte ≢ tab → byte ≢ backslash
    → first_byte false (cond own (byte ∷ []) (codes "\\x" ++ encode_lower (byte ∷ [])) ++ more) ≡ Some (byte, length (cond own (byte ∷ []) (codes "\\x" ++ encode_lower (byte ∷ []))))
unfolding first_byte behind_slash encode_with
own_again true byte more small other plain = rw (ne_eqb byte backslash plain, ne_eqb byte tab other) refl
own_again false byte more small other plain = rw (digits_again byte more small) refl

pub text_again : (byte : ℕ) (more : List ℕ) → byte < 256 → first_byte false (byte_text byte ++ more) ≡ Some (byte, length (byte_text byte))
unfolding byte_text first_byte behind_slash
text_again byte more small = elim (cases_eq byte 9) [
  | inl is ↦ rw is refl
  | inr tab ↦ elim (cases_eq byte 10) [
    | inl is ↦ rw is refl
    | inr newline ↦ elim (cases_eq byte 13) [
      | inl is ↦ rw is refl
      | inr return ↦ elim (cases_eq byte 92) [
        | inl is ↦ rw is refl
        | inr slash ↦ rw (ne_eqb byte 9 tab, ne_eqb byte 10 newline, ne_eqb byte 13 return, ne_eqb byte 92 slash) (own_again (is_in_range 32 126 byte) byte more small tab slash)
      ]
    ]
  ]
]

own_some : (own : Bool) (byte : ℕ) → 1 ≤ length (cond own (byte ∷ []) (codes "\\x" ++ encode_lower (byte ∷ [])))
own_some true byte = omega arith
own_some false byte = omega arith

text_some : (byte : ℕ) → 1 ≤ length (byte_text byte)
unfolding byte_text
text_some byte = elim (cases_eq byte 9) [
  | inl is ↦ rw is (omega arith)
  | inr tab ↦ elim (cases_eq byte 10) [
    | inl is ↦ rw is (omega arith)
    | inr newline ↦ elim (cases_eq byte 13) [
      | inl is ↦ rw is (omega arith)
      | inr return ↦ elim (cases_eq byte 92) [
        | inl is ↦ rw is (omega arith)
        | inr slash ↦ rw (ne_eqb byte 9 tab, ne_eqb byte 10 newline, ne_eqb byte 13 return, ne_eqb byte 92 slash) (own_some (is_in_range 32 126 byte) byte)
      ]
    ]
  ]
]

-- ---- bytes

pieces_again : (hex : Bool) (piece : ℕ → List ℕ) (at : ℕ) (bytes : List ℕ) → ((byte : ℕ) (more : List ℕ) → byte < 256 → first_byte hex (piece byte ++ more) ≡ Some (byte, length (piece byte)))
    → ((byte : ℕ) → 1 ≤ length (piece byte)) → AllByRecursion (λ byte. byte < 256) bytes → bytes_from hex at 0 (flat_map piece bytes) ≡ Ok bytes
unfolding bytes_from
pieces_again hex piece at [] again some all = refl
pieces_again hex piece at (byte ∷ bytes) again some all =
    let long = length-append (piece byte) (flat_map piece bytes) in
    byte_step hex at (piece byte ++ flat_map piece bytes) byte (length (piece byte)) (again byte (flat_map piece bytes) all.0) (some byte) (omega (arith, long))
    ∙ ap (λ text. behind (byte ∷ []) (bytes_from hex (at + length (piece byte)) 0 text)) (drop-append_seam (piece byte) (flat_map piece bytes))
    ∙ ap (behind (byte ∷ [])) (pieces_again hex piece (at + length (piece byte)) bytes again some all.1)

digit_pieces : (bytes : List ℕ) → flat_map (λ byte. encode_lower (byte ∷ [])) bytes ≡ encode_lower bytes
unfolding encode_with
digit_pieces [] = refl
digit_pieces (byte ∷ bytes) = ap (λ digits. slice_index lower_digits (byte / 16) ∷ slice_index lower_digits (byte % 16) ∷ digits) (digit_pieces bytes)

digit_some : (byte : ℕ) → 1 ≤ length (encode_lower (byte ∷ []))
unfolding encode_with
digit_some byte = omega arith

hex_piece_again : (byte : ℕ) (more : List ℕ) → byte < 256 → first_byte true (encode_lower (byte ∷ []) ++ more) ≡ Some (byte, length (encode_lower (byte ∷ [])))
unfolding encode_with
hex_piece_again byte more small = hex_again byte more small

pub hex_bytes_again : (at : ℕ) (bytes : List ℕ) → AllByRecursion (λ byte. byte < 256) bytes → bytes_from true at 0 (encode_lower bytes) ≡ Ok bytes
hex_bytes_again at bytes all = ap (bytes_from true at 0) (sym (digit_pieces bytes)) ∙ pieces_again true (λ byte. encode_lower (byte ∷ [])) at bytes hex_piece_again digit_some all

pub text_bytes_again : (at : ℕ) (bytes : List ℕ) → AllByRecursion (λ byte. byte < 256) bytes → bytes_from false at 0 (flat_map byte_text bytes) ≡ Ok bytes
text_bytes_again at bytes all = pieces_again false byte_text at bytes text_again text_some all

-- those with which a line begins
leading_hash_first : (more : List ℕ) → first_byte false (codes "\\x23" ++ more) ≡ Some (35, 4)
unfolding first_byte behind_slash
leading_hash_first more = refl

leading_bytes_again : (at : ℕ) (bytes : List ℕ) → AllByRecursion (λ byte. byte < 256) bytes → bytes_from false at 0 (leading_text bytes) ≡ Ok bytes
unfolding leading_text bytes_from
leading_bytes_again at [] all = refl
leading_bytes_again at (byte ∷ bytes) all = elim (cases_eq byte 35) [
  | inl is ↦ rw is (
      byte_step false at (codes "\\x23" ++ flat_map byte_text bytes) 35 4 (leading_hash_first (flat_map byte_text bytes)) (omega arith) (omega arith)
      ∙ ap (behind (35 ∷ [])) (text_bytes_again (at + 4) bytes all.1))
  | inr other ↦ rw (ne_eqb byte 35 other) (text_bytes_again at (byte ∷ bytes) all)
]

-- ---- which bytes stand in it

abbrev is_printable : ℕ → Bool
is_printable byte = is_in_range 32 126 byte

abbrev pub AreOther : ℕ → List ℕ → Type 0
AreOther mark text = AllByRecursion (λ byte. byte ≢ mark) text

pub graphic_other : (mark : ℕ) (text : List ℕ) → mark < 33 → list_all is_ascii_graphic text ≡ true → AreOther mark text
graphic_other mark [] small all = tt
graphic_other mark (byte ∷ text) small all =
    let rest : list_all is_ascii_graphic text ≡ true = grind (arith, nat_tests) in
    let high : 33 ≤ byte = grind (arith, nat_tests) in
    (λ is. absurd (omega arith), graphic_other mark text small rest)

printable_other : (mark : ℕ) (text : List ℕ) → mark < 32 → list_all is_printable text ≡ true → AreOther mark text
printable_other mark [] small all = tt
printable_other mark (byte ∷ text) small all =
    let rest : list_all is_printable text ≡ true = grind (arith, nat_tests) in
    let high : 32 ≤ byte = grind (arith, nat_tests) in
    (λ is. absurd (omega arith), printable_other mark text small rest)

digit_graphic : (value : ℕ) → value < 16 → is_ascii_graphic (slice_index lower_digits value) ≡ true
digit_graphic value small = rw (digit_is value small) (grind (arith, nat_tests))

pub hex_graphic : (bytes : List ℕ) → AllByRecursion (λ byte. byte < 256) bytes → list_all is_ascii_graphic (encode_lower bytes) ≡ true
unfolding encode_with
hex_graphic [] all = refl
hex_graphic (byte ∷ bytes) all =
    let high : byte / 16 < 16 = omega (arith, all.0) in
    let low : byte % 16 < 16 = omega arith in
    rw (digit_graphic (byte / 16) high, digit_graphic (byte % 16) low, hex_graphic bytes all.1) refl

digit_printable : (value : ℕ) → value < 16 → is_printable (slice_index lower_digits value) ≡ true
digit_printable value small = rw (digit_is value small) (grind (arith, nat_tests))

own_printable : (own : Bool) (byte : ℕ) → byte < 256 → own ≡ is_printable byte → list_all is_printable (cond own (byte ∷ []) (codes "\\x" ++ encode_lower (byte ∷ []))) ≡ true
unfolding encode_with
own_printable true byte small is = rw (← is) refl
own_printable false byte small is =
    let high : byte / 16 < 16 = omega arith in
    let low : byte % 16 < 16 = omega arith in
    rw (digit_printable (byte / 16) high, digit_printable (byte % 16) low) refl

text_printable : (byte : ℕ) → byte < 256 → list_all is_printable (byte_text byte) ≡ true
unfolding byte_text
text_printable byte small = elim (cases_eq byte 9) [
  | inl is ↦ rw is refl
  | inr tab ↦ elim (cases_eq byte 10) [
    | inl is ↦ rw is refl
    | inr newline ↦ elim (cases_eq byte 13) [
      | inl is ↦ rw is refl
      | inr return ↦ elim (cases_eq byte 92) [
        | inl is ↦ rw is refl
        | inr slash ↦ rw (ne_eqb byte 9 tab, ne_eqb byte 10 newline, ne_eqb byte 13 return, ne_eqb byte 92 slash) (own_printable (is_in_range 32 126 byte) byte small refl)
      ]
    ]
  ]
]

texts_printable : (bytes : List ℕ) → AllByRecursion (λ byte. byte < 256) bytes → list_all is_printable (flat_map byte_text bytes) ≡ true
texts_printable [] all = refl
texts_printable (byte ∷ bytes) all = list_all-append is_printable (byte_text byte) (flat_map byte_text bytes) ∙ rw (text_printable byte all.0, texts_printable bytes all.1) refl

leading_printable : (bytes : List ℕ) → AllByRecursion (λ byte. byte < 256) bytes → list_all is_printable (leading_text bytes) ≡ true
unfolding leading_text
leading_printable [] all = refl
leading_printable (byte ∷ bytes) all = elim (cases_eq byte 35) [
  | inl is ↦ rw is (texts_printable bytes all.1)
  | inr other ↦ rw (ne_eqb byte 35 other) (texts_printable (byte ∷ bytes) all)
]

-- ---- keys and values

-- the bytes up to here stand in no key or value
abbrev pub least_limit : Separated → ℕ
least_limit Words = 33
least_limit Tsv = 32

pub field_other : (format : Separated) (hex : Bool) (mark : ℕ) (bytes : List ℕ) → mark < least_limit format → AllByRecursion (λ byte. byte < 256) bytes → AreOther mark (field_text format hex bytes)
field_other Words true mark bytes small all = graphic_other mark (encode_lower bytes) small (hex_graphic bytes all)
field_other Tsv true mark bytes small all = graphic_other mark (encode_lower bytes) (omega arith) (hex_graphic bytes all)
field_other Words false mark bytes small all = graphic_other mark (printed bytes) small (printed_graphic bytes all)
field_other Tsv false mark bytes small all = printable_other mark (flat_map byte_text bytes) small (texts_printable bytes all)

pub field_again : (format : Separated) (hex : Bool) (field : Field) (at : ℕ) (bytes : List ℕ) → AllByRecursion (λ byte. byte < 256) bytes → field_bytes format hex field at (field_text format hex bytes) ≡ Ok bytes
unfolding field_bytes
field_again Words true field at bytes all = hex_bytes_again at bytes all
field_again Tsv true field at bytes all = hex_bytes_again at bytes all
field_again Words false field at bytes all = rw (printed_again bytes all) refl
field_again Tsv false field at bytes all = text_bytes_again at bytes all

pub key_other : (format : Separated) (hex : Bool) (mark : ℕ) (bytes : List ℕ) → mark < least_limit format → AllByRecursion (λ byte. byte < 256) bytes → AreOther mark (key_text format hex bytes)
key_other Words true mark bytes small all = graphic_other mark (encode_lower bytes) small (hex_graphic bytes all)
key_other Tsv true mark bytes small all = graphic_other mark (encode_lower bytes) (omega arith) (hex_graphic bytes all)
key_other Words false mark bytes small all = graphic_other mark (printed bytes) small (printed_graphic bytes all)
key_other Tsv false mark bytes small all = printable_other mark (leading_text bytes) small (leading_printable bytes all)

pub key_again : (format : Separated) (hex : Bool) (field : Field) (at : ℕ) (bytes : List ℕ) → AllByRecursion (λ byte. byte < 256) bytes → field_bytes format hex field at (key_text format hex bytes) ≡ Ok bytes
unfolding field_bytes
key_again Words true field at bytes all = hex_bytes_again at bytes all
key_again Tsv true field at bytes all = hex_bytes_again at bytes all
key_again Words false field at bytes all = rw (printed_again bytes all) refl
key_again Tsv false field at bytes all = leading_bytes_again at bytes all
