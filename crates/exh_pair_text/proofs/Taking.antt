-- Fields that are read, one byte behind the other.
use Rattle.std.proofs.Common.{◌≡◌, ◌≢◌, ℕ, suc, ◌+◌, ◌<◌, ◌≤◌, List, [], ◌∷◌, ◌++◌, length, drop, get_or, Ok, Err, Result, refl, sym, ap, ◌∙◌, append-nil, append_assoc, arith}
use Rattle.std.proofs.Math.Seq.{drop-cons}
use Rattle.std.proofs.lemmas.List.{drop_all}
use Rattle.exh_pair_text.specs.declared.part.Part.{Part}
use Rattle.exh_pair_text.specs.declared.part.Part.TheVariants.{Mark, Content, Comma, Stray}
use Rattle.exh_pair_text.specs.declared.wrong_record.WrongRecord.{WrongRecord}
use Rattle.exh_pair_text.specs.declared.place.Place.{Place}
use Rattle.exh_pair_text.specs.declared.place.Place.TheVariants.{Start, Plain, Quoted, Closed}
use Rattle.exh_pair_text.specs.declared.wrong_record.WrongRecord.TheVariants.{OpenQuote, BehindQuote}
use Rattle.exh_pair_text.specs.Fields.{Read, all_fields, fields_from, fields_in, in_front, read_end}
use Rattle.exh_pair_text.specs.Places.{part_at, place_after}
use Rattle.exh_pair_text.specs.CsvReads.{ended, taken_by}

-- what is read so far in front of the rest
abbrev pub joined : List (List ℕ) × List ℕ → Read → Result (List (List ℕ)) WrongRecord
joined taken (Ok found) = Ok (taken.0 ++ (taken.1 ++ found.0) ∷ found.1)
joined taken (Err wrong) = Err wrong

pub joined_none : (read : Read) → joined ([], []) read ≡ all_fields read
joined_none (Ok found) = refl
joined_none (Err wrong) = refl

pub joined_more : (part : Part) (at byte : ℕ) (fields : List (List ℕ)) (field : List ℕ) (read : Read) → part ≢ Stray → joined (fields, field) (in_front part at byte read) ≡ joined (taken_by part byte (fields, field)) read
joined_more Mark at byte fields field read some = refl
joined_more Content at byte fields field (Ok found) some = ap (λ (f : List ℕ). Ok (fields ++ f ∷ found.1)) (sym (append_assoc field (byte ∷ []) found.0))
joined_more Content at byte fields field (Err wrong) some = refl
joined_more Comma at byte fields field (Ok found) some =
    ap (λ (f : List ℕ). Ok (fields ++ f ∷ found.0 ∷ found.1)) (append-nil field) ∙ ap Ok (sym (append_assoc fields (field ∷ []) (found.0 ∷ found.1)))
joined_more Comma at byte fields field (Err wrong) some = refl
joined_more Stray at byte fields field read some = absurd (some refl)

-- ---- as a loop goes on, of which so many bytes are taken

module _ (place : Place) (at : ℕ) (text : List ℕ) (taken : List (List ℕ) × List ℕ) (within : at < length text) (left : joined taken (fields_from place (at + 1) (drop at text)) ≡ fields_in text) where
  abbrev here : ℕ
  here = get_or text at 0

  step : fields_from place (at + 1) (drop at text) ≡ in_front (part_at place here) (at + 1) here (fields_from (place_after place here) (at + 1 + 1) (drop (at + 1) text))
  unfolding fields_from
  step =
      let next : suc at ≡ at + 1 = omega arith in
      ap (fields_from place (at + 1)) (drop-cons text at 0 within ∙ ap (λ n. here ∷ drop n text) next)

  pub more : part_at place here ≢ Stray → joined (taken_by (part_at place here) here taken) (fields_from (place_after place here) (at + 1 + 1) (drop (at + 1) text)) ≡ fields_in text
  more some = sym (joined_more (part_at place here) (at + 1) here taken.0 taken.1 (fields_from (place_after place here) (at + 1 + 1) (drop (at + 1) text)) some) ∙ sym (ap (joined taken) step) ∙ left

  pub stray : part_at place here ≡ Stray → Err (BehindQuote (at + 1)) ≡ fields_in text
  stray is = ap (λ (p : Part). joined taken (in_front p (at + 1) here (fields_from (place_after place here) (at + 1 + 1) (drop (at + 1) text)))) (sym is) ∙ sym (ap (joined taken) step) ∙ left

-- ---- at its end

at_end : (place : Place) (at : ℕ) → fields_from place at [] ≡ read_end place
unfolding fields_from
at_end place at = refl

end_is : (place : Place) → place ≢ Quoted → read_end place ≡ Ok ([], [])
end_is Quoted closed = absurd (closed refl)
end_is Start closed = refl
end_is Plain closed = refl
end_is Closed closed = refl

module _ (place : Place) (at : ℕ) (text : List ℕ) (taken : List (List ℕ) × List ℕ) (past : length text ≤ at) (left : joined taken (fields_from place (at + 1) (drop at text)) ≡ fields_in text) where
  ends : joined taken (read_end place) ≡ fields_in text
  ends = ap (joined taken) (sym (ap (fields_from place (at + 1)) (drop_all at text past) ∙ at_end place (at + 1))) ∙ left

  pub unclosed : place ≡ Quoted → Err OpenQuote ≡ fields_in text
  unclosed is = ap (λ (p : Place). joined taken (read_end p)) (sym is) ∙ ends

  pub whole : place ≢ Quoted → Ok (ended taken).0 ≡ fields_in text
  whole closed = ap (λ (field : List ℕ). Ok (taken.0 ++ field ∷ [])) (sym (append-nil taken.1)) ∙ ap (joined taken) (sym (end_is place closed)) ∙ ends
