-- Reads of packed records: where the bytes of each stand, and what they say of it.
use Rattle.std.proofs.Common.{◌≡◌, ℕ, ◌+◌, ◌-◌, ◌<◌, ◌≤◌, List, [], ◌∷◌, ◌++◌, length, take, drop, get_or, slice_get, Some, refl, sym, ap, ◌∙◌, subst, arith}
use Rattle.std.specs.declared.cmp.Ordering.TheVariants.{Less, Equal, Greater}
use Rattle.std.specs.List.{All, flat_map}
use Rattle.std.proofs.lemmas.Grind.{flat_map-append}
use Rattle.std.proofs.lemmas.List.{take_more, take_all, drop_more, length-take-le, length-drop, length-map, get_or-map, get_or-take, length-append, append-nil}
use Rattle.std.proofs.lemmas.List.Elements.{All-more, All-from_recursion}
use Rattle.std.proofs.lemmas.Option.{slice_get_within, get_or_from_slice_get, slice_get-get_or, slice_get_read}
use Rattle.exh_page.specs.declared.key.TheConstants.{KEY_LIMIT}
use Rattle.exh_page.specs.declared.record.Record.{Record}
use Rattle.exh_page.specs.declared.stored_record.StoredRecord.{StoredRecord}
use Rattle.exh_page.specs.declared.value.TheConstants.{VALUE_LIMIT}
use Rattle.exh_page.specs.PackedRecords.{ArePacked, IsSized, stored_of, record_text, text_len, record_in, records_in}
use Rattle.exh_page.specs.Place.{Place, place_cmp, place_of}
use Rattle.exh_page.specs.Records.{IsRising}
use Rattle.exh_page.specs.Search.{IsFound, IsGap}
use Rattle.exh_page.proofs.Searched.{found_at, gap_at}
use Rattle.exh_page.proofs.Packed.{record_back, start_of, start_within, texts_from}

-- a record's bytes follow those of the records before it
pub start_after : (records : List Record) (i : ℕ) (x : Record) → i < length records → start_of records (i + 1) ≡ start_of records i + length (record_text (get_or records i x))
start_after records i x within =
    ap (λ list. length (flat_map record_text list)) (take_more records i x within)
    ∙ ap length (flat_map-append record_text (take i records) (get_or records i x ∷ []))
    ∙ length-append (flat_map record_text (take i records)) (record_text (get_or records i x) ++ [])
    ∙ ap (λ text. start_of records i + length text) (append-nil (record_text (get_or records i x)))

module _ {records : List Record} {stored : List StoredRecord} {texts : List ℕ} (packed : ArePacked records stored texts) where
  -- there are as many of what is kept as records
  pub as_many : length stored ≡ length records
  as_many = ap length packed.kept ∙ length-map records stored_of

  -- what is kept at a place is of the record there
  pub kept_at : (i : ℕ) (d : StoredRecord) (x : Record) → i < length records → get_or stored i d ≡ stored_of (get_or records i x)
  kept_at i d x within = ap (λ list. get_or list i d) packed.kept ∙ get_or-map stored_of records i x d within

  -- so it says where the next record's bytes begin
  pub start_next : (i : ℕ) (d : StoredRecord) → i < length records → start_of records i + text_len (get_or stored i d) ≡ start_of records (i + 1)
  start_next i d within =
      let x = record_in d [] in
      ap (λ kept. start_of records i + text_len kept) (kept_at i d x within)
      ∙ ap (λ n. start_of records i + n) (sym (length-append (get_or records i x).key (get_or records i x).value))
      ∙ sym (start_after records i x within)

  -- no place is past the last byte
  pub start_inside : (i : ℕ) → start_of records i ≤ length texts
  start_inside i = omega (arith, start_within records i, ap length packed.joined)

  -- what follows the records before a place is the bytes of the others
  pub bytes_from : (slice : List ℕ) (i start : ℕ) → slice ≡ texts → start ≡ start_of records i → take (length slice - start) (drop start slice) ≡ flat_map record_text (drop i records)
  bytes_from slice i start same is =
      take_all (length slice - start) (drop start slice) (omega (arith, length-drop start slice))
      ∙ ap (drop start) (same ∙ packed.joined) ∙ ap (λ n. drop n (flat_map record_text records)) is ∙ texts_from records i

  -- the count of bytes goes on by those of one record more
  pub start_added : (slice : List StoredRecord) (i : ℕ) (d : StoredRecord) (start len : ℕ) → slice ≡ stored → i < length slice
      → start ≡ start_of records i → len ≡ text_len (get_or slice i d) → start + len ≡ start_of records (i + 1)
  start_added slice i d start len same within begun counted =
      ap (λ n. n + len) begun ∙ ap (λ n. start_of records i + n) (counted ∙ ap (λ list. text_len (get_or list i d)) same) ∙ start_next i d (omega (arith, ap length same, as_many))

  -- of the first records, too
  pub start_step : (slice : List StoredRecord) (at i : ℕ) (d : StoredRecord) (start len : ℕ) → slice ≡ stored → at ≤ length records → i < length (take at slice)
      → start ≡ start_of records i → len ≡ text_len (get_or (take at slice) i d) → start + len ≡ start_of records (i + 1)
  start_step slice at i d start len same within inside begun counted =
      let short : i < at = omega (arith, length-take-le at slice (omega (arith, ap length same, as_many))) in
      start_added slice i d start len same (omega (arith, short, ap length same, as_many)) begun (counted ∙ ap text_len (get_or-take at slice i d short))

  -- a record's bytes come first in what follows the records before it
  bytes_first : (i : ℕ) (x : Record) (text : List ℕ) → i < length records → text ≡ flat_map record_text (drop i records)
      → text ≡ record_text (get_or records i x) ++ flat_map record_text (drop (i + 1) records)
  bytes_first i x text within is = is ∙ ap (flat_map record_text) (drop_more records i x within)

  -- so the record is read from there
  pub read_at : (slice : List StoredRecord) (i : ℕ) (d : StoredRecord) (x : Record) (text : List ℕ) → slice ≡ stored → i < length records → text ≡ flat_map record_text (drop i records)
      → record_in (get_or slice i d) text ≡ get_or records i x
  read_at slice i d x text same within is =
      ap (λ kept. record_in kept text) (ap (λ list. get_or list i d) same ∙ kept_at i d x within)
      ∙ ap (record_in (stored_of (get_or records i x))) (bytes_first i x text within is)
      ∙ record_back (get_or records i x) (flat_map record_text (drop (i + 1) records))

  -- and there are as many bytes as it has
  pub read_inside : (slice : List StoredRecord) (i : ℕ) (d : StoredRecord) (text : List ℕ) → slice ≡ stored → i < length records → text ≡ flat_map record_text (drop i records)
      → text_len (get_or slice i d) ≤ length text
  read_inside slice i d text same within is =
      let x = record_in d [] in
      let r = get_or records i x in
      omega (
        arith,
        ap text_len (ap (λ list. get_or list i d) same ∙ kept_at i d x within),
        ap length (bytes_first i x text within is),
        length-append (record_text r) (flat_map record_text (drop (i + 1) records)),
        length-append r.key r.value,
      )

  -- its key, too
  pub key_inside : (slice : List StoredRecord) (i : ℕ) (d : StoredRecord) (text : List ℕ) → slice ≡ stored → i < length slice → text ≡ flat_map record_text (drop i records)
      → (get_or slice i d).key_len ≤ length text
  key_inside slice i d text same within is =
      let inside : i < length records = omega (arith, ap length same, as_many) in
      let kept = ap (λ list. get_or list i d) same ∙ kept_at i d (record_in d []) inside in
      omega (arith, read_inside slice i d text same inside is, ap (λ (kept : StoredRecord). kept.key_len) kept, ap text_len kept)

  -- what an index reads is what stands there
  pub kept_read : (i : ℕ) (kept : StoredRecord) → i < length records → kept ≡ get_or stored i kept → slice_get stored i ≡ Some kept
  kept_read i kept within is = slice_get_read stored (length records) i kept (sym as_many) within is

  -- ---- one record, of which what is kept and the bytes are at hand

  module _ (i : ℕ) (kept : StoredRecord) (text : List ℕ) (at : slice_get stored i ≡ Some kept) (is : text ≡ flat_map record_text (drop i records)) where
    abbrev this : Record
    this = record_in kept text

    this_within : i < length records
    this_within = omega (arith, slice_get_within stored i kept at, as_many)

    this_is : this ≡ get_or records i this
    this_is = ap (λ kept. record_in kept text) (sym (get_or_from_slice_get stored i kept kept at)) ∙ read_at stored i kept this text refl this_within is

    this_sized : IsSized (get_or records i this)
    this_sized = All-from_recursion IsSized records packed.sized i this this_within

    -- the record is at its place
    pub this_read : slice_get records i ≡ Some this
    this_read = slice_get-get_or records i this this_within ∙ ap Some (sym this_is)

    pub this_inside : text_len kept ≤ length text
    this_inside = omega (arith, ap text_len (get_or_from_slice_get stored i kept kept at), read_inside stored i kept text refl this_within is)

    kept_is : kept ≡ stored_of (get_or records i this)
    kept_is = sym (get_or_from_slice_get stored i kept kept at) ∙ kept_at i kept this this_within

    pub key_some : 1 ≤ kept.key_len
    key_some = omega (arith, ap (λ (kept : StoredRecord). kept.key_len) kept_is, this_sized.some)

    pub key_fits : kept.key_len ≤ KEY_LIMIT
    key_fits = omega (arith, ap (λ (kept : StoredRecord). kept.key_len) kept_is, this_sized.key)

    pub key_within : kept.key_len ≤ text_len kept
    key_within = omega (arith, ap (λ (kept : StoredRecord). kept.key_len) kept_is, ap text_len kept_is)

    pub value_fits : kept.whole_len - kept.key_len ≤ VALUE_LIMIT
    value_fits = omega (arith, ap (λ (kept : StoredRecord). kept.key_len) kept_is, ap text_len kept_is, this_sized.value)

    -- its key and its value are parts of the bytes
    module _ (from : ℕ) (from_is : from ≡ kept.key_len) where
      pub key_part : take from text ≡ this.key
      key_part = ap (λ n. take n text) from_is

      pub length-key_part : length (take from text) ≡ from
      length-key_part = length-take-le from text (omega (arith, from_is, key_within, this_inside))

      module _ (end : ℕ) (end_is : end ≡ text_len kept) where
        pub part_from : from ≤ end
        part_from = omega (arith, from_is, end_is, key_within)

        pub part_inside : end ≤ length text
        part_inside = omega (arith, end_is, this_inside)

        pub value_part : take (end - from) (drop from text) ≡ this.value
        value_part = ap (λ n. take (end - n) (drop n text)) from_is ∙ ap (λ n. take n (drop kept.key_len text)) (omega (arith, end_is))

        pub value_part_fits : length (take (end - from) (drop from text)) ≤ VALUE_LIMIT
        value_part_fits =
            omega (
              arith,
              value_fits,
              this_inside,
              ap length value_part,
              length-take-le (kept.whole_len - kept.key_len) (drop kept.key_len text) (omega (arith, this_inside, length-drop kept.key_len text)),
            )

  -- ---- what the order of a record to a place says, where those before it stand before the place

  module _ (place : Place) (slice : List StoredRecord) (i : ℕ) (d : StoredRecord) (text : List ℕ) (same : slice ≡ stored) (within : i < length slice) (is : text ≡ flat_map record_text (drop i records))
      (before : All (λ r. place_cmp (place_of r) place ≡ Less) (take i records)) where
    abbrev here : Record
    here = record_in (get_or slice i d) text

    inside : i < length records
    inside = omega (arith, within, ap length same, as_many)

    pub found_packed : IsRising records → Equal ≡ place_cmp (place_of here) place → IsFound place records i
    found_packed rising order = found_at place records i here rising inside (read_at slice i d here text same inside is) before (sym order)

    pub gap_packed : IsRising records → Greater ≡ place_cmp (place_of here) place → IsGap place records i
    gap_packed rising order = gap_at place records i here rising inside (read_at slice i d here text same inside is) before (sym order)

    pub before_packed : Less ≡ place_cmp (place_of here) place → All (λ r. place_cmp (place_of r) place ≡ Less) (take (i + 1) records)
    before_packed order =
        let P : Record → Type 0 = λ r. place_cmp (place_of r) place ≡ Less in
        All-more P records i here inside before (subst P (read_at slice i d here text same inside is) (sym order))

-- what is packed is what the view shows
pub packed_as : {records : List Record} {stored : List StoredRecord} {texts : List ℕ} → ArePacked (records_in stored texts) stored texts → records_in stored texts ≡ records → ArePacked records stored texts
packed_as {records} {stored} {texts} packed view = subst (λ list. ArePacked list stored texts) view packed
