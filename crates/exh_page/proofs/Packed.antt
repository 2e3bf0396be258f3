-- What packed lists hold, and where a record's bytes stand in them.
use Rattle.std.proofs.Common.{◌≡◌, ℕ, ◌+◌, ◌-◌, ◌≤◌, List, [], ◌∷◌, ◌++◌, length, take, drop, map, append_assoc, refl, sym, ap, ◌∙◌, subst, arith}
use Rattle.std.specs.List.{flat_map}
use Rattle.std.proofs.lemmas.Grind.{flat_map-append}
use Rattle.std.proofs.lemmas.List.{take-append-drop, length-append}
use Rattle.std.proofs.Math.Seq.{drop-append_seam, take-append_seam}
use Rattle.exh_page.specs.declared.record.Record.{Record}
use Rattle.exh_page.specs.declared.stored_record.StoredRecord.{StoredRecord}
use Rattle.exh_page.specs.PackedRecords.{ArePacked, stored_of, record_text, record_in, records_in}

-- a record is read back from its bytes, whatever follows them
pub record_back : (r : Record) (more : List ℕ) → record_in (stored_of r) (record_text r ++ more) ≡ r
record_back r more =
    let rest : length r.key + length r.value - length r.key ≡ length r.value = omega arith in
    rw (rest, append_assoc r.key r.value more, take-append_seam r.key (r.value ++ more), drop-append_seam r.key (r.value ++ more), take-append_seam r.value more) refl

text_passed : (r : Record) (more : List ℕ) → drop (length r.key + length r.value) (record_text r ++ more) ≡ more
text_passed r more = ap (λ n. drop n (record_text r ++ more)) (sym (length-append r.key r.value)) ∙ drop-append_seam (record_text r) more

records_back : (records : List Record) → records_in (map stored_of records) (flat_map record_text records) ≡ records
records_back [] = refl
records_back (r ∷ others) =
    let more = flat_map record_text others in
    ap (λ first. first ∷ records_in (map stored_of others) (drop (length r.key + length r.value) (record_text r ++ more))) (record_back r more)
    ∙ ap (λ texts. r ∷ records_in (map stored_of others) texts) (text_passed r more)
    ∙ ap (λ back. r ∷ back) (records_back others)

-- what two lists were packed of, and what they hold
pub unpacked : {records : List Record} {stored : List StoredRecord} {texts : List ℕ} → ArePacked records stored texts → records_in stored texts ≡ records
unpacked {records} {stored} {texts} packed =
    ap (λ stored. records_in stored texts) packed.kept ∙ ap (records_in (map stored_of records)) packed.joined ∙ records_back records

pub repacked : {records : List Record} {stored : List StoredRecord} {texts : List ℕ} → ArePacked records stored texts → ArePacked (records_in stored texts) stored texts
repacked {records} {stored} {texts} packed = subst (λ list. ArePacked list stored texts) (sym (unpacked packed)) packed

-- ---- the bytes before a place and from it on

-- how many bytes the records before a place have
abbrev pub start_of : List Record → ℕ → ℕ
start_of records i = length (flat_map record_text (take i records))

texts_cut : (records : List Record) (i : ℕ) → flat_map record_text records ≡ flat_map record_text (take i records) ++ flat_map record_text (drop i records)
texts_cut records i = ap (flat_map record_text) (sym (take-append-drop i records)) ∙ flat_map-append record_text (take i records) (drop i records)

pub texts_before : (records : List Record) (i : ℕ) → take (start_of records i) (flat_map record_text records) ≡ flat_map record_text (take i records)
texts_before records i = ap (take (start_of records i)) (texts_cut records i) ∙ take-append_seam (flat_map record_text (take i records)) (flat_map record_text (drop i records))

pub texts_from : (records : List Record) (i : ℕ) → drop (start_of records i) (flat_map record_text records) ≡ flat_map record_text (drop i records)
texts_from records i = ap (drop (start_of records i)) (texts_cut records i) ∙ drop-append_seam (flat_map record_text (take i records)) (flat_map record_text (drop i records))

pub start_within : (records : List Record) (i : ℕ) → start_of records i ≤ length (flat_map record_text records)
start_within records i = omega (arith, ap length (texts_cut records i), length-append (flat_map record_text (take i records)) (flat_map record_text (drop i records)))
