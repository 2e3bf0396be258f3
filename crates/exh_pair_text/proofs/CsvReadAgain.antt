-- What is written of fields reads as these fields.
use Rattle.std.proofs.Common.{◌≡◌, ◌≢◌, ℕ, ◌+◌, List, [], ◌∷◌, ◌++◌, Bool, true, false, cond, Ok, Err, inl, inr, refl, sym, ap, ◌∙◌, subst, flat_map, append-nil, append_assoc, arith}
use Rattle.std.specs.Prelude.{⊤, ◌||◌, nat_eq}
use Rattle.std.specs.List.{list_any, starts_with}
use Rattle.std.proofs.lemmas.Bool.{cases_eq, ne_eqb}
use Rattle.std.proofs.lemmas.Bool.Decides.{nat_tests}
use Rattle.exh_pair_text.specs.declared.place.Place.{Place}
use Rattle.exh_pair_text.specs.declared.place.Place.TheVariants.{Start, Plain, Quoted, Closed}
use Rattle.exh_pair_text.specs.Fields.{Read, behind_comma, fields_from, with_byte}
use Rattle.exh_pair_text.specs.CsvLaws.{FieldsAreRead}
use Rattle.exh_pair_text.specs.Places.{comma, hash, quote}
use Rattle.exh_pair_text.specs.Rows.{doubled, field_words, is_special, needs_quotes, row_words}

-- bytes in front of the field
abbrev pub with_bytes : List ℕ → Read → Read
with_bytes bytes (Ok found) = Ok (bytes ++ found.0, found.1)
with_bytes bytes (Err wrong) = Err wrong

with_none : (read : Read) → read ≡ with_bytes [] read
with_none (Ok found) = refl
with_none (Err wrong) = refl

with_more : (byte : ℕ) (bytes : List ℕ) (read : Read) → with_byte byte (with_bytes bytes read) ≡ with_bytes (byte ∷ bytes) read
with_more byte bytes (Ok found) = refl
with_more byte bytes (Err wrong) = refl

-- ---- bytes that are no quote or comma

pub record IsOwn (byte : ℕ) : Type 0 where
  pub quote : byte ≢ 34
  pub comma : byte ≢ 44
  pub newline : byte ≢ 10

pub own : (byte : ℕ) (bytes : List ℕ) → list_any is_special (byte ∷ bytes) ≡ false → IsOwn byte × (list_any is_special bytes ≡ false)
own byte bytes none = (record { quote = λ is. grind (arith, nat_tests); comma = λ is. grind (arith, nat_tests); newline = λ is. grind (arith, nat_tests) }, grind (arith, nat_tests))

-- ---- a field

pub doubled_own : (byte : ℕ) → byte ≢ 34 → doubled byte ≡ byte ∷ []
doubled_own byte other = rw (ne_eqb byte 34 other) refl

quoted_byte : (at byte : ℕ) (text : List ℕ) → byte ≢ 34 → fields_from Quoted at (byte ∷ text) ≡ with_byte byte (fields_from Quoted (at + 1) text)
unfolding fields_from
quoted_byte at byte text other = rw (ne_eqb byte 34 other) refl

quoted_quote : (at : ℕ) (text : List ℕ) → fields_from Quoted at (34 ∷ 34 ∷ text) ≡ with_byte 34 (fields_from Quoted (at + 1 + 1) text)
unfolding fields_from
quoted_quote at text = refl

quoted_end : (at : ℕ) (rest : List ℕ) → fields_from Quoted at (34 ∷ rest) ≡ fields_from Closed (at + 1) rest
unfolding fields_from
quoted_end at rest = refl

abbrev quoted_rest : List ℕ → List ℕ → List ℕ
quoted_rest bytes rest = flat_map doubled bytes ++ quote ∷ rest

quoted_more : (at byte : ℕ) (bytes rest : List ℕ) → byte ≢ 34 → fields_from Quoted at (quoted_rest (byte ∷ bytes) rest) ≡ with_byte byte (fields_from Quoted (at + 1) (quoted_rest bytes rest))
quoted_more at byte bytes rest other =
    ap (λ (front : List ℕ). fields_from Quoted at ((front ++ flat_map doubled bytes) ++ quote ∷ rest)) (doubled_own byte other) ∙ quoted_byte at byte (quoted_rest bytes rest) other

quoted_again : (at : ℕ) (bytes rest : List ℕ) → (end : ℕ) × (fields_from Quoted at (quoted_rest bytes rest) ≡ with_bytes bytes (fields_from Closed end rest))
quoted_again at [] rest = (at + 1, quoted_end at rest ∙ with_none (fields_from Closed (at + 1) rest))
quoted_again at (byte ∷ bytes) rest = elim (cases_eq byte 34) [
  | inl is ↦
      let more = quoted_again (at + 1 + 1) bytes rest in
      let step = quoted_quote at (quoted_rest bytes rest) ∙ ap (with_byte 34) more.1 ∙ with_more 34 bytes (fields_from Closed more.0 rest) in
      (more.0, subst (λ (b : ℕ). fields_from Quoted at (quoted_rest (b ∷ bytes) rest) ≡ with_bytes (b ∷ bytes) (fields_from Closed more.0 rest)) (sym is) step)
  | inr other ↦
      let more = quoted_again (at + 1) bytes rest in
      (more.0, quoted_more at byte bytes rest other ∙ ap (with_byte byte) more.1 ∙ with_more byte bytes (fields_from Closed more.0 rest))
]

plain_again : (at : ℕ) (bytes rest : List ℕ) → list_any is_special bytes ≡ false → (end : ℕ) × (fields_from Plain at (bytes ++ rest) ≡ with_bytes bytes (fields_from Plain end rest))
unfolding fields_from
plain_again at [] rest none = (at, with_none (fields_from Plain at rest))
plain_again at (byte ∷ bytes) rest none =
    let parts = own byte bytes none in
    let more = plain_again (at + 1) bytes rest parts.1 in
    (more.0, rw (ne_eqb byte 44 parts.0.comma) (ap (with_byte byte) more.1 ∙ with_more byte bytes (fields_from Plain more.0 rest)))

-- a place at which a field may end
abbrev pub MayEnd : Place → Type 0
MayEnd Quoted = ⊥
MayEnd Start = ⊤
MayEnd Plain = ⊤
MayEnd Closed = ⊤

record IsAgain (at : ℕ) (words field rest : List ℕ) : Type 0 where
  pub place : Place
  pub end : ℕ
  pub may_end : MayEnd place
  pub read : fields_from Start at (words ++ rest) ≡ with_bytes field (fields_from place end rest)

own_again : (at : ℕ) (field rest : List ℕ) → list_any is_special field ≡ false → IsAgain at field field rest
unfolding fields_from
own_again at [] rest none = record { place = Start; end = at; may_end = tt; read = with_none (fields_from Start at rest) }
own_again at (byte ∷ field) rest none =
    let parts = own byte field none in
    let more = plain_again (at + 1) field rest parts.1 in
    record {
      place = Plain;
      end = more.0;
      may_end = tt;
      read = rw (ne_eqb byte 34 parts.0.quote, ne_eqb byte 44 parts.0.comma) (ap (with_byte byte) more.1 ∙ with_more byte field (fields_from Plain more.0 rest));
    }

abbrev in_quotes : List ℕ → List ℕ
in_quotes field = quote ∷ (flat_map doubled field ++ quote ∷ [])

mark_again : (at : ℕ) (field rest : List ℕ) → IsAgain at (in_quotes field) field rest
unfolding fields_from
mark_again at field rest =
    let more = quoted_again (at + 1) field rest in
    record { place = Closed; end = more.0; may_end = tt; read = ap (λ (text : List ℕ). fields_from Quoted (at + 1) text) (append_assoc (flat_map doubled field) (quote ∷ []) rest) ∙ more.1 }

-- of a field that needs no quotes
pub none_special : (hash special : Bool) → hash || special ≡ false → special ≡ false
none_special true special none = cc
none_special false special none = none

again_by : (needs : Bool) (at : ℕ) (field rest : List ℕ) → needs ≡ needs_quotes field → IsAgain at (cond needs (in_quotes field) field) field rest
unfolding needs_quotes
again_by true at field rest is = mark_again at field rest
again_by false at field rest is = own_again at field rest (none_special (starts_with nat_eq field (hash ∷ [])) (list_any is_special field) (sym is))

field_again : (at : ℕ) (field rest : List ℕ) → IsAgain at (field_words field) field rest
unfolding field_words
field_again at field rest = again_by (needs_quotes field) at field rest refl

-- ---- fields

at_end : (place : Place) (at : ℕ) → MayEnd place → fields_from place at [] ≡ Ok ([], [])
unfolding fields_from
at_end Quoted at may = absurd may
at_end Start at may = refl
at_end Plain at may = refl
at_end Closed at may = refl

at_comma : (place : Place) (at : ℕ) (more : List ℕ) → MayEnd place → fields_from place at (comma ∷ more) ≡ behind_comma (fields_from Start (at + 1) more)
unfolding fields_from
at_comma Quoted at more may = absurd may
at_comma Start at more may = refl
at_comma Plain at more may = refl
at_comma Closed at more may = refl

row_again : (at : ℕ) (field : List ℕ) (fields : List (List ℕ)) → fields_from Start at (row_words field fields) ≡ Ok (field, fields)
row_again at field [] =
    let again = field_again at field [] in
    ap (λ (text : List ℕ). fields_from Start at text) (sym (append-nil (field_words field))) ∙ again.read
    ∙ ap (with_bytes field) (at_end again.place again.end again.may_end) ∙ ap (λ (bytes : List ℕ). Ok (bytes, [])) (append-nil field)
row_again at field (next ∷ fields) =
    let again = field_again at field (comma ∷ row_words next fields) in
    again.read
    ∙ ap (with_bytes field) (at_comma again.place again.end (row_words next fields) again.may_end ∙ ap behind_comma (row_again (again.end + 1) next fields))
    ∙ ap (λ (bytes : List ℕ). Ok (bytes, next ∷ fields)) (append-nil field)

pub fields_are_read : FieldsAreRead
fields_are_read field fields = rw (row_again 1 field fields) refl
