-- Edits of packed lists: what they leave of the bytes, and of which records.
use Rattle.std.proofs.Common.{◌≡◌, ℕ, ◌+◌, ◌<◌, ◌≤◌, List, [], ◌∷◌, ◌++◌, suc, length, take, drop, map, get_or, set, insert, remove, append_assoc, length-append, length-drop, refl, sym, ap, ◌∙◌, subst, arith}
use Rattle.std.specs.List.{All, AllByRecursion, flat_map}
use Rattle.std.proofs.lemmas.Grind.{flat_map-append}
use Rattle.std.proofs.lemmas.List.{append-nil, map-append, take_at, drop_at, drop-drop, take-append-drop, take-take, take-append-le, drop-append-le, length-take-le, length-map, take-map, drop-map, set_split}
use Rattle.std.proofs.lemmas.List.Edits.{length-paste, paste-paste, paste_all}
use Rattle.std.proofs.lemmas.List.Elements.{All-from_recursion, recursion_from_All, All-append, All-take, All-drop}
use Rattle.std.proofs.lemmas.Slice.{put_mid-paste}
use Rattle.std.proofs.Math.Numerals.{suc-eq-add-one}
use borrow.Rule.Slice.PartMut.{put_mid}
use lib.Seq.{paste}
use Rattle.exh_page.specs.declared.record.Record.{Record}
use Rattle.exh_page.specs.declared.stored_record.StoredRecord.{StoredRecord}
use Rattle.exh_page.specs.PackedRecords.{ArePacked, IsSized, stored_of, record_text, text_len}
use Rattle.exh_page.proofs.Packed.{start_of, texts_before, texts_from}
use Rattle.exh_page.proofs.PackedReads.{kept_at, start_next}

-- ---- a text put in place of others: first the bytes behind it are moved, if more room was asked for

moved : (old pad : List ℕ) (end moved_to back : ℕ) → back + end ≡ length old
    → paste (old ++ pad) moved_to (drop end (old ++ pad)) back ≡ take moved_to (old ++ pad) ++ (drop end old ++ drop (moved_to + back) (old ++ pad))
moved old pad end moved_to back reach =
    append_assoc (take moved_to (old ++ pad)) _ _
    ∙ ap (λ bytes. take moved_to (old ++ pad) ++ (bytes ++ drop (moved_to + back) (old ++ pad)))
    (ap (take back) (drop-append-le end old pad (omega arith)) ∙ take_at (drop end old) pad back (omega (arith, length-drop end old)))

-- bytes that are put where they stand
pub paste_same : (bytes : List ℕ) (at n : ℕ) → paste bytes at (drop at bytes) n ≡ bytes
paste_same bytes at n =
    append_assoc (take at bytes) _ _
    ∙ ap (λ rest. take at bytes ++ (take n (drop at bytes) ++ rest)) (sym (drop-drop n at bytes))
    ∙ ap (λ rest. take at bytes ++ rest) (take-append-drop n (drop at bytes)) ∙ take-append-drop at bytes

-- a write within a slice keeps its length
pub length-put_mid : (bytes written : List ℕ) (start len : ℕ) → length written ≡ len → start + len ≤ length bytes → length (put_mid start len bytes written) ≡ length bytes
length-put_mid bytes written start len is within = ap length (put_mid-paste start len bytes written written len refl refl (sym is)) ∙ length-paste bytes start written len within (omega arith)

-- then the key and the value are written
written : (bytes key value : List ℕ) (start key_len value_len : ℕ) → length key ≡ key_len → length value ≡ value_len → start ≤ length bytes
    → put_mid (start + length key) value_len (put_mid start key_len bytes key) value ≡ take start bytes ++ ((key ++ value) ++ drop (start + length key + length value) bytes)
written bytes key value start key_len value_len key_is value_is within =
    let both : start + (length key + length value) ≡ start + length key + length value = omega arith in
    ap (λ bytes. put_mid (start + length key) value_len bytes value) (put_mid-paste start key_len bytes key key (length key) refl key_is refl)
    ∙ put_mid-paste (start + length key) value_len (paste bytes start key (length key)) value value (length value) refl value_is refl
    ∙ paste-paste bytes start key value (length key) (length value) refl refl within
    ∙ paste_all bytes start (key ++ value) (length key + length value) (sym (length-append key value))
    ∙ ap (λ n. take start bytes ++ ((key ++ value) ++ drop n bytes)) both

-- and what is past all is cut off
cut_off : (front middle back past : List ℕ) (whole : ℕ) → length front + length middle + length back ≡ whole → take whole (front ++ (middle ++ (back ++ past))) ≡ front ++ (middle ++ back)
cut_off front middle back past whole is =
    ap (take whole) (ap (λ bytes. front ++ bytes) (sym (append_assoc middle back past)) ∙ sym (append_assoc front (middle ++ back) past))
    ∙ take_at (front ++ (middle ++ back)) past whole (omega (arith, length-append front (middle ++ back), length-append middle back))

pub text_put : (old pad key value : List ℕ) (start end key_len value_len back : ℕ)
    → start ≤ end → back + end ≡ length old → length key ≡ key_len → length value ≡ value_len → start + length key + length value + back ≤ length (old ++ pad)
    → take (start + length key + length value + back) (put_mid (start + length key) value_len (put_mid start key_len (paste (old ++ pad) (start + length key + length value) (drop end (old ++ pad)) back) key) value)
    ≡ take start old ++ ((key ++ value) ++ drop end old)
text_put old pad key value start end key_len value_len back order reach key_is value_is room =
    let moved_to : ℕ = start + length key + length value in
    let front : List ℕ = take moved_to (old ++ pad) in
    let past : List ℕ = drop (moved_to + back) (old ++ pad) in
    let long : length front ≡ moved_to = length-take-le moved_to (old ++ pad) (omega arith) in
    let kept : take start (front ++ (drop end old ++ past)) ≡ take start old =
    take-append-le start front (drop end old ++ past) (omega arith) ∙ take-take start moved_to (old ++ pad) (omega arith) ∙ take-append-le start old pad (omega arith) in
    let behind : drop moved_to (front ++ (drop end old ++ past)) ≡ drop end old ++ past = drop_at front (drop end old ++ past) moved_to long in
    ap (λ bytes. take (moved_to + back) (put_mid (start + length key) value_len (put_mid start key_len bytes key) value)) (moved old pad end moved_to back reach)
    ∙ ap (take (moved_to + back))
    (written (front ++ (drop end old ++ past)) key value start key_len value_len key_is value_is (omega (arith, length-append front (drop end old ++ past)))
    ∙ ap (λ bytes. bytes ++ ((key ++ value) ++ drop moved_to (front ++ (drop end old ++ past)))) kept
    ∙ ap (λ bytes. take start old ++ ((key ++ value) ++ bytes)) behind)
    ∙ cut_off (take start old) (key ++ value) (drop end old) past (moved_to + back)
    (omega (arith, length-take-le start old (omega arith), length-append key value, length-drop end old))

-- ---- records put in place of those from i to j

-- what is kept of them
kept_between : (records middle : List Record) (i j : ℕ)
    → map stored_of (take i records ++ (middle ++ drop j records)) ≡ take i (map stored_of records) ++ (map stored_of middle ++ drop j (map stored_of records))
kept_between records middle i j =
    map-append stored_of (take i records) (middle ++ drop j records)
    ∙ ap (λ list. map stored_of (take i records) ++ list) (map-append stored_of middle (drop j records))
    ∙ ap (λ list. list ++ (map stored_of middle ++ map stored_of (drop j records))) (sym (take-map stored_of i records))
    ∙ ap (λ list. take i (map stored_of records) ++ (map stored_of middle ++ list)) (sym (drop-map stored_of j records))

-- and their bytes
texts_between : (records middle : List Record) (i j : ℕ)
    → flat_map record_text (take i records ++ (middle ++ drop j records))
    ≡ take (start_of records i) (flat_map record_text records) ++ (flat_map record_text middle ++ drop (start_of records j) (flat_map record_text records))
texts_between records middle i j =
    flat_map-append record_text (take i records) (middle ++ drop j records)
    ∙ ap (λ bytes. flat_map record_text (take i records) ++ bytes) (flat_map-append record_text middle (drop j records))
    ∙ ap (λ bytes. bytes ++ (flat_map record_text middle ++ flat_map record_text (drop j records))) (sym (texts_before records i))
    ∙ ap (λ bytes. take (start_of records i) (flat_map record_text records) ++ (flat_map record_text middle ++ bytes)) (sym (texts_from records j))

sized_between : (records middle : List Record) (i j : ℕ) → AllByRecursion IsSized records → AllByRecursion IsSized middle → AllByRecursion IsSized (take i records ++ (middle ++ drop j records))
sized_between records middle i j sized more =
    let all : All IsSized records = All-from_recursion IsSized records sized in
    recursion_from_All IsSized (take i records ++ (middle ++ drop j records))
    (All-append IsSized (take i records) (middle ++ drop j records) (All-take IsSized i records all)
    (All-append IsSized middle (drop j records) (All-from_recursion IsSized middle more) (All-drop IsSized j records all)))

module _ {records : List Record} {stored : List StoredRecord} {texts : List ℕ} (packed : ArePacked records stored texts) where
  packed_between : (middle : List Record) (i j : ℕ) → AllByRecursion IsSized middle
      → ArePacked (take i records ++ (middle ++ drop j records)) (take i stored ++ (map stored_of middle ++ drop j stored))
      (take (start_of records i) texts ++ (flat_map record_text middle ++ drop (start_of records j) texts))
  packed_between middle i j more = record {
    kept = ap (λ list. take i list ++ (map stored_of middle ++ drop j list)) packed.kept ∙ sym (kept_between records middle i j);
    joined = ap (λ bytes. take (start_of records i) bytes ++ (flat_map record_text middle ++ drop (start_of records j) bytes)) packed.joined ∙ sym (texts_between records middle i j);
    sized = sized_between records middle i j packed.sized more;
  }

  -- where the record at i ends, and the next begins
  pub ended_at : (i start len : ℕ) (kept : StoredRecord) → i < length records → start ≡ start_of records i → len ≡ text_len kept → kept ≡ get_or stored i kept → start + len ≡ start_of records (i + 1)
  ended_at i start len kept within begun long is =
      ap (λ n. n + len) begun ∙ ap (λ n. start_of records i + n) (long ∙ ap text_len is) ∙ start_next packed i kept within

  -- how many bytes it has
  pub long_at : (i len : ℕ) (kept : StoredRecord) (d : Record) → i < length records → len ≡ text_len kept → kept ≡ get_or stored i kept → len ≡ length (record_text (get_or records i d))
  long_at i len kept d within long is =
      long ∙ ap text_len (is ∙ kept_at packed i kept d within) ∙ sym (length-append (get_or records i d).key (get_or records i d).value)

  -- a record is inserted at i
  pub packed_inserted : (i start : ℕ) (item : Record) (new_stored : List StoredRecord) (new_texts : List ℕ) → IsSized item → start ≡ start_of records i
      → new_stored ≡ insert stored i (stored_of item) → new_texts ≡ take start texts ++ (record_text item ++ drop start texts) → ArePacked (insert records i item) new_stored new_texts
  packed_inserted i start item new_stored new_texts sized begun stored_is texts_is =
      let bytes : new_texts ≡ take (start_of records i) texts ++ (flat_map record_text (item ∷ []) ++ drop (start_of records i) texts) =
      texts_is ∙ ap (λ n. take n texts ++ (record_text item ++ drop n texts)) begun
      ∙ ap (λ text. take (start_of records i) texts ++ (text ++ drop (start_of records i) texts)) (sym (append-nil (record_text item))) in
      subst (λ list. ArePacked (insert records i item) list new_texts) (sym stored_is)
      (subst (ArePacked (insert records i item) (insert stored i (stored_of item))) (sym bytes) (packed_between (item ∷ []) i i (sized, tt)))

  -- the record at i is replaced
  pub packed_replaced : (i start end : ℕ) (item : Record) (new_stored : List StoredRecord) (new_texts : List ℕ) → IsSized item → i < length records
      → start ≡ start_of records i → end ≡ start_of records (i + 1)
      → new_stored ≡ set stored i (stored_of item) → new_texts ≡ take start texts ++ (record_text item ++ drop end texts) → ArePacked (set records i item) new_stored new_texts
  packed_replaced i start end item new_stored new_texts sized within begun ended stored_is texts_is =
      let ended_suc : end ≡ start_of records (suc i) = ended ∙ ap (start_of records) (sym (suc-eq-add-one i)) in
      let bytes : new_texts ≡ take (start_of records i) texts ++ (flat_map record_text (item ∷ []) ++ drop (start_of records (suc i)) texts) =
      texts_is ∙ ap (λ n. take n texts ++ (record_text item ++ drop end texts)) begun
      ∙ ap (λ n. take (start_of records i) texts ++ (record_text item ++ drop n texts)) ended_suc
      ∙ ap (λ text. take (start_of records i) texts ++ (text ++ drop (start_of records (suc i)) texts)) (sym (append-nil (record_text item))) in
      let kept : new_stored ≡ take i stored ++ stored_of item ∷ drop (suc i) stored =
      stored_is ∙ set_split stored i (stored_of item) (omega (arith, ap length packed.kept, length-map records stored_of)) in
      subst (λ list. ArePacked list new_stored new_texts) (sym (set_split records i item within))
      (subst (λ list. ArePacked (take i records ++ item ∷ drop (suc i) records) list new_texts) (sym kept)
      (subst (ArePacked (take i records ++ item ∷ drop (suc i) records) (take i stored ++ stored_of item ∷ drop (suc i) stored)) (sym bytes) (packed_between (item ∷ []) i (suc i) (sized, tt))))

  -- the record at i is taken out
  pub packed_removed : (i start end : ℕ) (new_stored : List StoredRecord) (new_texts : List ℕ) → start ≡ start_of records i → end ≡ start_of records (i + 1)
      → new_stored ≡ remove stored i → new_texts ≡ take start texts ++ drop end texts → ArePacked (remove records i) new_stored new_texts
  packed_removed i start end new_stored new_texts begun ended stored_is texts_is =
      let bytes : new_texts ≡ take (start_of records i) texts ++ drop (start_of records (suc i)) texts =
      texts_is ∙ ap (λ n. take n texts ++ drop end texts) begun
      ∙ ap (λ n. take (start_of records i) texts ++ drop n texts) (ended ∙ ap (start_of records) (sym (suc-eq-add-one i))) in
      subst (λ list. ArePacked (remove records i) list new_texts) (sym stored_is)
      (subst (ArePacked (remove records i) (remove stored i)) (sym bytes) (packed_between [] i (suc i) tt))
