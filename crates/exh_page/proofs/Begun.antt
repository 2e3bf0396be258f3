-- Runs of records: those that a prefix begins are one of rising records, and packed lists are cut where it is.
use Rattle.std.proofs.Common.{◌≡◌, ℕ, ◌+◌, ◌-◌, ◌^◌, ◌<◌, ◌≤◌, Bool, true, false, List, [], ◌∷◌, ◌++◌, length, take, drop, map, filter, get_or, IsTrue, ◌↔◌, inl, inr, sym, ap, ◌∙◌, subst, arith}
use Rattle.std.specs.List.{AllByRecursion, flat_map}
use Rattle.std.proofs.lemmas.Bool.{cases_lt}
use Rattle.std.proofs.lemmas.Grind.{flat_map-append}
use Rattle.std.proofs.lemmas.List.{append-nil, drop_more, drop-drop, get_or-drop, get_or-take, length-append, length-drop, length-take-le, map-append, take-append-drop, take-map, drop-map}
use Rattle.std.proofs.lemmas.List.Elements.{All-from_recursion, recursion_from_All, All-take, All-drop}
use Rattle.std.proofs.Math.Seq.{take-add}
use Rattle.exh_prefix.specs.Bits.{word_bits}
use Rattle.exh_prefix.specs.Prefix.{Begins, begins, low_of}
use Rattle.exh_prefix.specs.PrefixLemmas.{begins_low, begins_from_low, low_of-lt, is_front-true, not_front}
use Rattle.exh_prefix.specs.PrefixListLemmas.{AllByRecursion-append, AllByRecursion-append_right, AllByRecursion-weaker}
use Rattle.exh_page.specs.declared.record.Record.{Record}
use Rattle.exh_page.specs.declared.spot.Spot.{Spot}
use Rattle.exh_page.specs.declared.stored_record.StoredRecord.{StoredRecord}
use Rattle.exh_page.specs.PackedRecords.{ArePacked, IsSized, stored_of, record_text}
use Rattle.exh_page.specs.Page.{begun_by}
use Rattle.exh_page.specs.Records.{IsRising}
use Rattle.exh_page.specs.RecordsLemmas.{IsRising-drop, all_fail, all_pass, filter-append}
use Rattle.exh_page.specs.Search.{IsCutAt, bound_of}
use Rattle.exh_page.specs.ShareLemmas.{AreWords, both, pseudokeys_rise}
use Rattle.exh_page.proofs.Packed.{start_of, texts_before, texts_from}
use Rattle.exh_page.proofs.PackedReads.{as_many, kept_at}

-- ---- packed lists, put together

-- the same records, in lists that are equal
pub packed_same : {records list : List Record} {stored kept : List StoredRecord} {texts joined : List ℕ} → records ≡ list → kept ≡ stored → joined ≡ texts → ArePacked records stored texts → ArePacked list kept joined
packed_same {records} {list} {stored} {kept} {texts} {joined} same_records same_stored same_texts packed = record {
  kept = same_stored ∙ packed.kept ∙ ap (map stored_of) same_records;
  joined = same_texts ∙ packed.joined ∙ ap (flat_map record_text) same_records;
  sized = subst (AllByRecursion IsSized) same_records packed.sized;
}

-- two packed lists, one after the other
pub packed_append : {front back : List Record} {stored others : List StoredRecord} {texts more : List ℕ} → ArePacked front stored texts → ArePacked back others more
    → ArePacked (front ++ back) (stored ++ others) (texts ++ more)
packed_append {front} {back} {stored} {others} {texts} {more} fore aft = record {
  kept = ap (λ list. list ++ others) fore.kept ∙ ap (λ list. map stored_of front ++ list) aft.kept ∙ sym (map-append stored_of front back);
  joined = ap (λ list. list ++ more) fore.joined ∙ ap (λ list. flat_map record_text front ++ list) aft.joined ∙ sym (flat_map-append record_text front back);
  sized = AllByRecursion-append IsSized front back fore.sized aft.sized;
}

-- ---- the records from one place up to another

-- the records before a place are those before an earlier one, and those between the two
taken_so_far : {A : Type 0} (xs : List A) (i j : ℕ) → i ≤ j → take j xs ≡ take i xs ++ take (j - i) (drop i xs)
taken_so_far xs i j order = ap (λ n. take n xs) (omega (arith, order)) ∙ take-add i (j - i) xs

-- so are their bytes
starts_add : (records : List Record) (i j : ℕ) → i ≤ j → start_of records j ≡ start_of records i + start_of (drop i records) (j - i)
starts_add records i j order =
    ap (λ list. length (flat_map record_text list)) (taken_so_far records i j order)
    ∙ ap length (flat_map-append record_text (take i records) (take (j - i) (drop i records)))
    ∙ length-append (flat_map record_text (take i records)) (flat_map record_text (take (j - i) (drop i records)))

pub starts_rise : (records : List Record) (i j : ℕ) → i ≤ j → start_of records i ≤ start_of records j
starts_rise records i j order = omega (arith, starts_add records i j order)

module _ {records : List Record} {stored : List StoredRecord} {texts : List ℕ} (packed : ArePacked records stored texts) where
  pub packed_run : (i j start end : ℕ) → i ≤ j → start ≡ start_of records i → end ≡ start_of records j
      → ArePacked (take (j - i) (drop i records)) (take (j - i) (drop i stored)) (take (end - start) (drop start texts))
  packed_run i j start end order begun ended =
      let long : end - start ≡ start_of (drop i records) (j - i) = omega (arith, begun, ended, starts_add records i j order) in
      record {
        kept = ap (λ list. take (j - i) (drop i list)) packed.kept ∙ ap (take (j - i)) (drop-map stored_of i records) ∙ take-map stored_of (j - i) (drop i records);
        joined = ap (λ n. take n (drop start texts)) long ∙ ap (λ n. take (start_of (drop i records) (j - i)) (drop n texts)) begun
            ∙ ap (λ bytes. take (start_of (drop i records) (j - i)) (drop (start_of records i) bytes)) packed.joined
            ∙ ap (take (start_of (drop i records) (j - i))) (texts_from records i) ∙ texts_before (drop i records) (j - i);
        sized = recursion_from_All IsSized _ (All-take IsSized (j - i) (drop i records) (All-drop IsSized i records (All-from_recursion IsSized records packed.sized)));
      }

  pub packed_words : AreWords records
  packed_words = AllByRecursion-weaker IsSized _ (λ r sized. sized.word) records packed.sized

-- ---- the records that a prefix begins are those between two bounds

-- a pseudokey between them is begun
within_bounds : (prefix : List Bool) (r : Record) → length prefix ≤ 64 → (bound_of prefix false ≤ r.pseudokey) × (r.pseudokey < bound_of prefix true) → begins prefix r.pseudokey ≡ true
within_bounds prefix r short within =
    is_front-true prefix (word_bits r.pseudokey) (begins_from_low prefix r.pseudokey short (omega (arith, within.0)) (omega (arith, within.1)))

below_bounds : (prefix : List Bool) (r : Record) → length prefix ≤ 64 → r.pseudokey < bound_of prefix false → begins prefix r.pseudokey ≡ false
below_bounds prefix r short below =
    not_front prefix (word_bits r.pseudokey) (λ begun. omega (arith, below, (begins_low prefix r.pseudokey short (omega (arith, below, low_of-lt prefix short)) begun).0))

past_bounds : (prefix : List Bool) (r : Record) → length prefix ≤ 64 → (r.pseudokey < 2 ^ 64) × (bound_of prefix true ≤ r.pseudokey) → begins prefix r.pseudokey ≡ false
past_bounds prefix r short past = not_front prefix (word_bits r.pseudokey) (λ begun. omega (arith, past.1, (begins_low prefix r.pseudokey short past.0 begun).1))

-- whether a pseudokey is below a bound, by what the code tests
pub tells_past : (prefix : List Bool) (pseudokey : ℕ) (begun : Bool) → length prefix ≤ 64 → pseudokey < 2 ^ 64 → low_of prefix ≤ pseudokey → IsTrue begun ↔ Begins prefix pseudokey
    → IsTrue begun ↔ (pseudokey < bound_of prefix true)
tells_past prefix pseudokey begun short fits above tells = (
  λ is. (begins_low prefix pseudokey short fits (tells.0 is)).1,
  λ below. tells.1 (begins_from_low prefix pseudokey short above below),
)

-- the first bound isn't after the second
pub bounds_in_order : (prefix : List Bool) (records : List Record) (from to : Spot) → IsCutAt (bound_of prefix false) records from → IsCutAt (bound_of prefix true) records to → from.index ≤ to.index
bounds_in_order prefix records from to low past = elim (cases_lt to.index from.index) [
  | inl early ↦
      let d : Record = record { pseudokey = 0; key = []; value = [] } in
      let below : (get_or (take from.index records) to.index d).pseudokey < bound_of prefix false =
      All-from_recursion _ (take from.index records) low.below to.index d (omega (arith, early, length-take-le from.index records low.within)) in
      let above : bound_of prefix true ≤ (get_or (drop to.index records) 0 d).pseudokey =
      All-from_recursion _ (drop to.index records) past.rest 0 d (omega (arith, early, low.within, length-drop to.index records)) in
      let same : (get_or (take from.index records) to.index d).pseudokey ≡ (get_or (drop to.index records) 0 d).pseudokey =
      ap (λ (r : Record). r.pseudokey) (get_or-take from.index records to.index d early ∙ ap (λ n. get_or records n d) (omega arith) ∙ sym (get_or-drop to.index records 0 d)) in
      omega (arith, below, above, same)
  | inr late ↦ late
]

-- so what stands between them is all that the prefix begins
pub begun_run : (prefix : List Bool) (records : List Record) (from to : Spot) → length prefix ≤ 64 → AreWords records
    → IsCutAt (bound_of prefix false) records from → IsCutAt (bound_of prefix true) records to → take (to.index - from.index) (drop from.index records) ≡ begun_by prefix records
begun_run prefix records from to short words low past =
    let p : Record → Bool = λ r. begins prefix r.pseudokey in
    let i = from.index in
    let j = to.index in
    let order : i ≤ j = bounds_in_order prefix records from to low past in
    let front = take i records in
    let middle = take (j - i) (drop i records) in
    let back = drop j records in
    let rest : drop i records ≡ middle ++ back = sym (take-append-drop (j - i) (drop i records)) ∙ ap (λ list. middle ++ list) (drop-drop (j - i) i records ∙ ap (λ n. drop n records) (omega (arith, order))) in
    let whole : records ≡ front ++ (middle ++ back) = sym (take-append-drop i records) ∙ ap (λ list. front ++ list) rest in
    let none : filter p front ≡ [] = all_fail p (λ r. r.pseudokey < bound_of prefix false) (λ r below. below_bounds prefix r short below) front low.below in
    let above : AllByRecursion (λ r. bound_of prefix false ≤ r.pseudokey) middle =
    recursion_from_All _ middle (All-take (λ r. bound_of prefix false ≤ r.pseudokey) (j - i) (drop i records) (All-from_recursion _ (drop i records) low.rest)) in
    let below : AllByRecursion (λ r. r.pseudokey < bound_of prefix true) middle =
    AllByRecursion-append_right _ front middle (subst (AllByRecursion (λ r. r.pseudokey < bound_of prefix true)) (taken_so_far records i j order) past.below) in
    let all : filter p middle ≡ middle = all_pass p _ (λ r within. within_bounds prefix r short within) middle (both _ _ middle above below) in
    let fits : AreWords back = recursion_from_All _ back (All-drop (λ r. r.pseudokey < 2 ^ 64) j records (All-from_recursion _ records words)) in
    let no_more : filter p back ≡ [] = all_fail p _ (λ r after. past_bounds prefix r short after) back (both _ _ back fits past.rest) in
    sym (
    ap (filter p) whole ∙ filter-append p front (middle ++ back) ∙ ap (λ list. list ++ filter p (middle ++ back)) none
    ∙ filter-append p middle back ∙ ap (λ list. list ++ filter p back) all ∙ ap (λ list. middle ++ list) no_more ∙ append-nil middle
    )

-- ---- where a walk over rising records stops

-- no record after one that isn't below a bound is below it
pub rest_above : (bound : ℕ) (records : List Record) (i : ℕ) (d : Record) → IsRising records → i < length records → bound ≤ (get_or records i d).pseudokey
    → AllByRecursion (λ r. bound ≤ r.pseudokey) (drop i records)
rest_above bound records i d rising within above =
    let x : Record = get_or records i d in
    let rest : drop i records ≡ x ∷ drop (i + 1) records = drop_more records i d within in
    let later = (subst IsRising rest (IsRising-drop i records rising)).0 in
    subst (AllByRecursion (λ r. bound ≤ r.pseudokey)) (sym rest) (above, AllByRecursion-weaker _ _ (λ s before. omega (arith, above, pseudokeys_rise x s before)) (drop (i + 1) records) later)

-- what is kept of a record has its pseudokey
pub same_pseudokey : {records : List Record} {stored slice : List StoredRecord} {texts : List ℕ} (i : ℕ) (d : StoredRecord) (x : Record) → ArePacked records stored texts → slice ≡ stored → i < length slice
    → (get_or slice i d).pseudokey ≡ (get_or records i x).pseudokey
same_pseudokey {records} {stored} {slice} {texts} i d x packed same within =
    ap (λ list. (get_or list i d).pseudokey) same ∙ ap (λ (kept : StoredRecord). kept.pseudokey) (kept_at packed i d x (omega (arith, within, ap length same, as_many packed)))
