-- Where a search of rising records stops.
use Rattle.std.proofs.Common.{◌≡◌, ℕ, ◌+◌, ◌<◌, ◌≤◌, Bool, true, false, List, [], ◌∷◌, ◌++◌, length, take, drop, get_or, set, insert, slice_get, None, Some, IfSome, refl, sym, ap, ◌∙◌, subst, arith}
use Rattle.std.specs.declared.cmp.Ordering.TheVariants.{Less, Equal, Greater}
use Rattle.std.specs.List.{All}
use Rattle.std.specs.Ordering.{is_lt}
use Rattle.std.proofs.lemmas.Bool.{false≢true}
use Rattle.std.proofs.lemmas.List.{length-append, take-append-drop, drop_more, drop_all, take_all, set_split}
use Rattle.std.proofs.lemmas.List.Elements.{recursion_from_All}
use Rattle.std.proofs.lemmas.Option.{slice_get_read}
use Rattle.std.proofs.Math.Numerals.{suc-eq-add-one}
use Rattle.exh_page.specs.declared.record.Record.{Record}
use Rattle.exh_page.specs.Place.{Place, place_cmp, place_of}
use Rattle.exh_page.specs.Records.{IsRising, value_at, with_record}
use Rattle.exh_page.specs.PackedRecords.{record_text}
use Rattle.exh_page.specs.Page.{begun_by}
use Rattle.exh_page.specs.RecordsLemmas.{place_cmp-exact, AllBefore, AllAfter, IsRising-drop, IsRising-filter, IsRising-with_record, after_later, value_at-cut, with_record-cut}
use Rattle.exh_page.specs.Search.{IsFound, IsGap}

-- the records from i on, of which the first is x
rest_from : (records : List Record) (i : ℕ) (x : Record) → i < length records → x ≡ get_or records i x → drop i records ≡ x ∷ drop (i + 1) records
rest_from records i x within is = drop_more records i x within ∙ ap (λ r. r ∷ drop (i + 1) records) (sym is)

pub found_at : (place : Place) (records : List Record) (i : ℕ) (x : Record) → IsRising records → i < length records → x ≡ get_or records i x
    → All (λ r. place_cmp (place_of r) place ≡ Less) (take i records) → place_cmp (place_of x) place ≡ Equal → IsFound place records i
found_at place records i x rising within is before here =
    let rest = rest_from records i x within is in
    record {
      within = within;
      found = x;
      at = slice_get_read records (length records) i x refl within is;
      cut = record {
        whole = sym (take-append-drop i records) ∙ ap (λ back. take i records ++ back) rest;
        before = recursion_from_All _ (take i records) before;
        here = (here, tt);
        after = after_later place x (drop (i + 1) records) (subst IsRising rest (IsRising-drop i records rising)) (ap is_lt here);
      };
    }

pub gap_at : (place : Place) (records : List Record) (i : ℕ) (x : Record) → IsRising records → i < length records → x ≡ get_or records i x
    → All (λ r. place_cmp (place_of r) place ≡ Less) (take i records) → place_cmp (place_of x) place ≡ Greater → IsGap place records i
gap_at place records i x rising within is before here =
    let rest = rest_from records i x within is in
    let later = after_later place x (drop (i + 1) records) (subst IsRising rest (IsRising-drop i records rising)) (ap is_lt here) in
    record {
      within = omega arith;
      cut = record {
        whole = sym (take-append-drop i records);
        before = recursion_from_All _ (take i records) before;
        here = tt;
        after = subst (AllAfter place) (sym rest) (here, later);
      };
    }

pub gap_at_end : (place : Place) (records : List Record) (i : ℕ) → length records ≤ i → All (λ r. place_cmp (place_of r) place ≡ Less) (take i records) → IsGap place records (length records)
gap_at_end place records i past before =
    let all : take i records ≡ records = take_all i records past in
    let none : drop (length records) records ≡ [] = drop_all (length records) records (omega arith) in
    record {
      within = omega arith;
      cut = record {
        whole = sym (take-append-drop (length records) records);
        before = subst (AllBefore place) (all ∙ sym (take_all (length records) records (omega arith))) (recursion_from_All _ (take i records) before);
        here = tt;
        after = subst (AllAfter place) (sym none) tt;
      };
    }

-- ---- what is read and written where a search stopped: the searched list is that of the view

pub value_found : {place : Place} {searched records : List Record} {i : ℕ} {value : List ℕ} → IsFound place searched i → searched ≡ records → IfSome (slice_get searched i) (λ r. value ≡ r.value)
    → Some value ≡ value_at place records
value_found {place} {searched} {records} {i} {value} found same read =
    let is : value ≡ found.found.value = subst (λ o. IfSome o (λ r. value ≡ r.value)) found.at read in
    ap Some is ∙ sym (value_at-cut place searched _ _ _ found.cut) ∙ ap (value_at place) same

pub no_value_at_gap : {place : Place} {searched records : List Record} {i : ℕ} → IsGap place searched i → searched ≡ records → None ≡ value_at place records
no_value_at_gap {place} {searched} {records} {i} gap same = sym (value_at-cut place searched _ _ _ gap.cut) ∙ ap (value_at place) same

pub set_found : {searched records : List Record} {i : ℕ} (item : Record) → IsFound (place_of item) searched i → searched ≡ records → set searched i item ≡ with_record item records
set_found {searched} {records} {i} item found same =
    set_split searched i item found.within ∙ ap (λ n. take i searched ++ item ∷ drop n searched) (suc-eq-add-one i)
    ∙ sym (with_record-cut item searched _ _ _ found.cut) ∙ ap (with_record item) same

pub insert_gap : {searched records : List Record} {i : ℕ} (item : Record) → IsGap (place_of item) searched i → searched ≡ records → insert searched i item ≡ with_record item records
insert_gap {searched} {records} {i} item gap same = sym (with_record-cut item searched _ _ _ gap.cut) ∙ ap (with_record item) same

-- ---- where memory was refused, the value was longer than the one that it was to replace, or there was none

longer : (item : Record) {searched : List Record} {i : ℕ} → IsFound (place_of item) searched i → IfSome (slice_get searched i) (λ r. length (record_text item) ≤ length (record_text r) → false ≡ true)
    → (P : Type 0) (value : List ℕ) → IfSome (slice_get searched i) (λ r. value ≡ r.value) → length item.value ≤ length value → P
longer item {searched} {i} found refused P value read le =
    let r : Record = found.found in
    let is : value ≡ r.value = subst (λ o. IfSome o (λ r. value ≡ r.value)) found.at read in
    let key : r.key ≡ item.key = ap (λ (place : Place). place.1) (place_cmp-exact (place_of r) (place_of item) found.cut.here.0) in
    let fits : length (record_text item) ≤ length (record_text r) = omega (arith, length-append item.key item.value, length-append r.key r.value, ap length key, ap length is) in
    absurd (false≢true (subst (λ o. IfSome o (λ r. length (record_text item) ≤ length (record_text r) → false ≡ true)) found.at refused fits))

pub refused_found : (item : Record) {searched records : List Record} {i : ℕ} (P : Type 0) → IsFound (place_of item) searched i → searched ≡ records
    → IfSome (slice_get searched i) (λ r. length (record_text item) ≤ length (record_text r) → false ≡ true) → IfSome (value_at (place_of item) records) (λ old. length item.value ≤ length old → P)
refused_found item {searched} {records} {i} P found same refused =
    let value : List ℕ = found.found.value in
    let read : IfSome (slice_get searched i) (λ r. value ≡ r.value) = subst (λ o. IfSome o (λ r. value ≡ r.value)) (sym found.at) refl in
    subst (λ o. IfSome o (λ old. length item.value ≤ length old → P)) (value_found found same read) (longer item found refused P value read)

pub refused_at_gap : (item : Record) {searched records : List Record} {i : ℕ} (P : Type 0) → IsGap (place_of item) searched i → searched ≡ records → IfSome (value_at (place_of item) records) (λ old. length item.value ≤ length old → P)
refused_at_gap item {searched} {records} {i} P gap same = subst (λ o. IfSome o (λ old. length item.value ≤ length old → P)) (no_value_at_gap gap same) tt

-- ---- what is left there rises

pub rising_with : (item : Record) (records left : List Record) → left ≡ with_record item records → IsRising records → IsRising left
rising_with item records left is rising = subst IsRising (sym is) (IsRising-with_record item records rising)

pub rising_begun : (prefix : List Bool) (records found : List Record) → found ≡ begun_by prefix records → IsRising records → IsRising found
rising_begun prefix records found is rising = subst IsRising (sym is) (IsRising-filter _ records rising)
