-- What is written of fields ends outside of quotes, and has its newlines in quotes.
use Rattle.std.proofs.Common.{◌≡◌, ◌≢◌, ℕ, List, [], ◌∷◌, ◌++◌, Bool, true, false, cond, inl, inr, refl, sym, ap, ◌∙◌, subst, flat_map, append-nil, append_assoc, arith}
use Rattle.std.specs.Prelude.{nat_eq}
use Rattle.std.specs.List.{list_any, starts_with}
use Rattle.std.proofs.lemmas.Bool.{cases_eq, ne_eqb}
use Rattle.exh_pair_text.specs.declared.place.Place.{Place}
use Rattle.exh_pair_text.specs.declared.place.Place.TheVariants.{Start, Plain, Quoted, Closed}
use Rattle.exh_pair_text.specs.CsvLaws.{RecordsAreWhole}
use Rattle.exh_pair_text.specs.Places.{AreQuoted, comma, hash, place_after, place_behind, quote}
use Rattle.exh_pair_text.specs.Rows.{doubled, field_words, is_special, needs_quotes, row_words}
use Rattle.exh_pair_text.proofs.CsvReadAgain.{MayEnd, none_special, own}

-- bytes lead from one place to another, with newlines in quotes alone, whatever stands behind them
record Leads (from to : Place) (text : List ℕ) : Type 0 where
  pub quoted : (rest : List ℕ) → AreQuoted place_after to rest → AreQuoted place_after from (text ++ rest)
  pub behind : (rest : List ℕ) → place_behind place_after from (text ++ rest) ≡ place_behind place_after to rest

leads_none : (place : Place) → Leads place place []
leads_none place = record { quoted = λ rest all. all; behind = λ rest. refl }

leads_byte : (from to : Place) (byte : ℕ) (text : List ℕ) → (byte ≡ 10 → from ≡ Quoted) → Leads (place_after from byte) to text → Leads from to (byte ∷ text)
leads_byte from to byte text newline more = record { quoted = λ rest all. (newline, more.quoted rest all); behind = λ rest. more.behind rest }

leads_quoted : (bytes : List ℕ) → Leads Quoted Closed (flat_map doubled bytes ++ quote ∷ [])
leads_quoted [] = leads_byte Quoted Closed 34 [] (λ is. refl) (leads_none Closed)
leads_quoted (byte ∷ bytes) = elim (cases_eq byte 34) [
  | inl is ↦ rw is (leads_byte Quoted Closed 34 _ (λ is. refl) (leads_byte Closed Closed 34 _ (λ is. absurd (omega arith)) (leads_quoted bytes)))
  | inr other ↦ rw (ne_eqb byte 34 other) (leads_byte Quoted Closed byte _ (λ is. refl) (rw (ne_eqb byte 34 other) (leads_quoted bytes)))
]

leads_plain : (bytes : List ℕ) → list_any is_special bytes ≡ false → Leads Plain Plain bytes
leads_plain [] none = leads_none Plain
leads_plain (byte ∷ bytes) none =
    let parts = own byte bytes none in
    leads_byte Plain Plain byte bytes (λ is. absurd (parts.0.newline is)) (rw (ne_eqb byte 44 parts.0.comma) (leads_plain bytes parts.1))

record IsLed (words : List ℕ) : Type 0 where
  pub place : Place
  pub may_end : MayEnd place
  pub leads : Leads Start place words

own_led : (field : List ℕ) → list_any is_special field ≡ false → IsLed field
own_led [] none = record { place = Start; may_end = tt; leads = leads_none Start }
own_led (byte ∷ field) none =
    let parts = own byte field none in
    record {
      place = Plain;
      may_end = tt;
      leads = leads_byte Start Plain byte field (λ is. absurd (parts.0.newline is)) (rw (ne_eqb byte 34 parts.0.quote, ne_eqb byte 44 parts.0.comma) (leads_plain field parts.1));
    }

abbrev in_quotes : List ℕ → List ℕ
in_quotes field = quote ∷ (flat_map doubled field ++ quote ∷ [])

led_by : (needs : Bool) (field : List ℕ) → needs ≡ needs_quotes field → IsLed (cond needs (in_quotes field) field)
unfolding needs_quotes
led_by true field is = record { place = Closed; may_end = tt; leads = leads_byte Start Closed 34 _ (λ is. absurd (omega arith)) (leads_quoted field) }
led_by false field is = own_led field (none_special (starts_with nat_eq field (hash ∷ [])) (list_any is_special field) (sym is))

field_led : (field : List ℕ) → IsLed (field_words field)
unfolding field_words
field_led field = led_by (needs_quotes field) field refl

-- behind such a place
comma_start : (place : Place) → MayEnd place → place_after place comma ≡ Start
comma_start Quoted may = absurd may
comma_start Start may = refl
comma_start Plain may = refl
comma_start Closed may = refl

not_quoted : (place : Place) → MayEnd place → place ≢ Quoted
not_quoted Quoted may is = absurd may
not_quoted Start may is = cc
not_quoted Plain may is = cc
not_quoted Closed may is = cc

abbrev IsWhole : Place → List ℕ → Type 0
IsWhole place text = AreQuoted place_after place text × (place_behind place_after place text ≢ Quoted)

led_whole : (words rest : List ℕ) (led : IsLed words) → IsWhole led.place rest → IsWhole Start (words ++ rest)
led_whole words rest led whole = (led.leads.quoted rest whole.0, λ is. whole.1 (sym (led.leads.behind rest) ∙ is))

row_whole : (field : List ℕ) (fields : List (List ℕ)) → IsWhole Start (row_words field fields)
row_whole field [] =
    let led = field_led field in
    subst (IsWhole Start) (append-nil (field_words field)) (led_whole (field_words field) [] led (tt, not_quoted led.place led.may_end))
row_whole field (next ∷ fields) =
    let led = field_led field in
    let more = subst (λ (p : Place). IsWhole p (row_words next fields)) (sym (comma_start led.place led.may_end)) (row_whole next fields) in
    led_whole (field_words field) (comma ∷ row_words next fields) led ((λ is. absurd (omega arith), more.0), more.1)

pub records_are_whole : RecordsAreWhole
records_are_whole field fields = row_whole field fields
