-- Where a record stands among others, or would, and what is edited there.
use Rattle.std.proofs.Common.{◌≡◌, ◌≢◌, ℕ, zero, suc, ◌+◌, ◌*◌, ◌<◌, Bool, true, false, cond, List, [], ◌∷◌, ◌++◌, length, take, drop, remove, get_or, slice_index, slice_get, find, Option, Some, None, refl, sym, ap, ◌∙◌, subst, arith}
use Rattle.std.specs.declared.cmp.Ordering.TheVariants.{Less, Equal, Greater}
use Rattle.std.specs.List.{AllByRecursion, flat_map}
use Rattle.std.specs.Option.{option_map}
use Rattle.std.specs.Ordering.{is_lt, is_eq, ordering_reverse}
use Rattle.std.proofs.Math.Numerals.{suc-eq-add-one}
use Rattle.std.proofs.lemmas.List.{length-append, take-append-drop, take_more, drop_more, get_or_default}
use Rattle.std.proofs.lemmas.Option.{slice_get_read, same_Some}
use Rattle.exh_prefix.specs.PrefixListLemmas.{AllByRecursion-append, AllByRecursion-weaker}
use Rattle.exh_page.specs.declared.record.Record.{Record}
use Rattle.exh_page.specs.declared.spot.Spot.{Spot}
use Rattle.exh_page.specs.KeyMap.{pair_of}
use Rattle.exh_page.specs.PackedRecords.{record_text}
use Rattle.exh_page.specs.Place.{Place, place_cmp, place_of}
use Rattle.exh_page.specs.Records.{IsRising, is_at, value_at, with_record}
use Rattle.exh_page.specs.RecordsLemmas.{AllBefore, AllAfter, after_later, place_cmp-exact, place_cmp-total, value_at-cut, with_record-cut, IsRising-append_right}
use Rattle.exh_page.specs.Search.{IsFound, IsStood}
use Rattle.exh_codec.specs.CellLemmas.{length-pair_image}
use Rattle.exh_codec.specs.Cells.{pair_image}
use Rattle.exh_frames.specs.declared.gap.Gap.{Gap}
use Rattle.exh_frames.specs.InPlace.{AreStarts, IsEdit, IsKeyAt, IsPlaceIn, bytes_of}
use Rattle.exh_frames.proofs.Cells.{cut_at}
use Rattle.exh_frames.proofs.Edited.{bytes_of-append}

-- a record takes two bytes more than its key and its value
pub length-bytes_of : (records : List Record) → length (bytes_of records) ≡ 2 * length records + length (flat_map record_text records)
length-bytes_of [] = refl
length-bytes_of (r ∷ records) =
    omega (
      arith,
      length-append (pair_image (pair_of r)) (bytes_of records),
      length-pair_image (pair_of r),
      length-append (record_text r) (flat_map record_text records),
      length-append r.key r.value,
      length-bytes_of records,
    )

-- ---- places

pub same_place : (place : Place) → place_cmp place place ≡ Equal
same_place place =
    elim (place_cmp place place) as (λ o. o ≡ ordering_reverse o → o ≡ Equal) [ Less ↦ λ turned. cc | Equal ↦ λ _. refl | Greater ↦ λ turned. cc ] (place_cmp-total.antisymm place place)

-- the first of rising records rise
pub rising_take : (records : List Record) (n : ℕ) → IsRising records → IsRising (take n records)
rising_take [] zero rising = tt
rising_take [] (suc n) rising = tt
rising_take (r ∷ records) zero rising = tt
rising_take (r ∷ records) (suc n) rising = (behind records n rising.0, rising_take records n rising.1)
  where
    behind : (records : List Record) (n : ℕ) → AllByRecursion (λ s. place_cmp (place_of r) (place_of s) ≡ Less) records → AllByRecursion (λ s. place_cmp (place_of r) (place_of s) ≡ Less) (take n records)
    behind [] zero all = tt
    behind [] (suc n) all = tt
    behind (s ∷ records) zero all = tt
    behind (s ∷ records) (suc n) all = (all.0, behind records n all.1)

-- in rising records all those before one stand before its place
before_one : (front : List Record) (one : Record) (back : List Record) → IsRising (front ++ one ∷ back) → AllBefore (place_of one) front
before_one [] one back rising = tt
before_one (r ∷ front) one back rising = (among front rising.0, before_one front one back rising.1)
  where
    among : (front : List Record) → AllByRecursion (λ s. place_cmp (place_of r) (place_of s) ≡ Less) (front ++ one ∷ back) → place_cmp (place_of r) (place_of one) ≡ Less
    among [] all = all.0
    among (s ∷ front) all = among front all.1

module _ (place : Place) (records : List Record) (i : ℕ) (d : Record) (rising : IsRising records) (within : i < length records) where
  cut_rising : IsRising (take i records ++ get_or records i d ∷ drop (i + 1) records)
  cut_rising = subst IsRising (cut_at records i d within) rising

  -- where one stands before a place, so do those before it
  pub front_before : place_cmp (place_of (get_or records i d)) place ≡ Less → AllBefore place (take (i + 1) records)
  front_before less =
      let item : Record = get_or records i d in
      subst (AllBefore place) (sym (take_more records i d within))
      (AllByRecursion-append _ (take i records) (item ∷ [])
      (AllByRecursion-weaker _ _ (λ r before. place_cmp-total.trans (place_of r) (place_of item) place before less) (take i records) (before_one (take i records) item (drop (i + 1) records) cut_rising))
      (less, tt))

  -- where it doesn't, none behind it does
  pub back_rest : is_lt (place_cmp (place_of (get_or records i d)) place) ≡ false → AllByRecursion (λ r. is_lt (place_cmp (place_of r) place) ≡ false) (drop i records)
  back_rest later =
      let item : Record = get_or records i d in
      let after = after_later place item (drop (i + 1) records) (IsRising-append_right (take i records) (item ∷ drop (i + 1) records) cut_rising) later in
      subst (AllByRecursion (λ r. is_lt (place_cmp (place_of r) place) ≡ false)) (sym (drop_more records i d within)) (later, AllByRecursion-weaker _ _ (λ r greater. ap is_lt greater) (drop (i + 1) records) after)

  -- where it has the place, it is found there
  pub found_one : place_of (get_or records i d) ≡ place → IsFound place records i
  found_one same =
      let item : Record = get_or records i d in
      let equal : place_cmp (place_of item) place ≡ Equal = ap (λ (p : Place). place_cmp p place) same ∙ same_place place in
      record {
        within = within;
        found = item;
        at = slice_get_read records (length records) i item refl within (get_or_default records i d item within);
        cut = record {
          whole = cut_at records i d within;
          before = subst (λ (p : Place). AllBefore p (take i records)) same (before_one (take i records) item (drop (i + 1) records) cut_rising);
          here = (equal, tt);
          after = after_later place item (drop (i + 1) records) (IsRising-append_right (take i records) (item ∷ drop (i + 1) records) cut_rising) (ap is_lt equal);
        };
      }

-- ---- where no record has the place

none_at : (place : Place) (r : Record) → place_of r ≢ place → is_at place r ≡ false
none_at place r differ =
    elim (place_cmp (place_of r) place) as (λ o. place_cmp (place_of r) place ≡ o → is_eq o ≡ false) [ Less ↦ λ _. refl | Equal ↦ λ same. absurd (differ (place_cmp-exact (place_of r) place same)) | Greater ↦ λ _. refl ] refl

none_found : (p : Record → Bool) (records : List Record) → AllByRecursion (λ r. p r ≡ false) records → find p records ≡ None
none_found p [] all = refl
none_found p (r ∷ records) all = rw (all.0) (none_found p records all.1)

pub no_value : (place : Place) (records : List Record) → AllByRecursion (λ r. place_of r ≢ place) records → value_at place records ≡ None
no_value place records all = ap (option_map (λ (r : Record). r.value)) (none_found (is_at place) records (AllByRecursion-weaker _ _ (λ r differ. none_at place r differ) records all))

none_here : (b : Bool) (r : Record) (found : Option Record) → option_map (λ (r : Record). r.value) (cond b (Some r) found) ≡ None → b ≡ false
none_here true r found none = cc
none_here false r found none = refl

all_apart : (place : Place) (records : List Record) → value_at place records ≡ None → AllByRecursion (λ r. is_at place r ≡ false) records
all_apart place [] none = tt
all_apart place (r ∷ records) none =
    let here = none_here (is_at place r) r (find (is_at place) records) none in
    (here, all_apart place records (sym (ap (λ (b : Bool). option_map (λ (r : Record). r.value) (cond b (Some r) (find (is_at place) records))) here) ∙ none))

apart_drop : (P : Record → Type 0) (i : ℕ) (records : List Record) → AllByRecursion P records → AllByRecursion P (drop i records)
apart_drop P zero records all = all
apart_drop P (suc i) [] all = tt
apart_drop P (suc i) (r ∷ records) all = apart_drop P i records all.1

after_place : (place : Place) (r : Record) → is_lt (place_cmp (place_of r) place) ≡ false → is_at place r ≡ false → place_cmp (place_of r) place ≡ Greater
after_place place r later apart = elim (place_cmp (place_of r) place) as (λ o. is_lt o ≡ false → is_eq o ≡ false → o ≡ Greater) [ Less ↦ λ l a. cc | Equal ↦ λ l a. cc | Greater ↦ λ l a. refl ] later apart

all_after : (place : Place) (records : List Record) → AllByRecursion (λ r. is_lt (place_cmp (place_of r) place) ≡ false) records → AllByRecursion (λ r. is_at place r ≡ false) records → AllAfter place records
all_after place [] rest apart = tt
all_after place (r ∷ records) rest apart = (after_place place r rest.0 apart.0, all_after place records rest.1 apart.1)

-- ---- the edit of a place

-- the records with one over the one that is found at its place
pub put_over : (item : Record) (records : List Record) (i : ℕ) (found : IsFound (place_of item) records i) → with_record item records ≡ take i records ++ item ∷ drop (i + 1) records
put_over item records i found = with_record-cut item records (take i records) (Some found.found) (drop (i + 1) records) found.cut

-- and with one before the first that stands behind it
pub put_before : (item : Record) (records : List Record) (i : ℕ) → IsPlaceIn (place_of item) records i → value_at (place_of item) records ≡ None → with_record item records ≡ take i records ++ item ∷ drop i records
put_before item records i place none =
    let after = all_after (place_of item) (drop i records) place.rest (apart_drop _ i records (all_apart (place_of item) records none)) in
    with_record-cut item records (take i records) None (drop i records) (record { whole = sym (take-append-drop i records); before = place.before; here = tt; after = after })

-- the gap of the record of an index
abbrev pub over : List ℕ → ℕ → Gap
over starts i = record { start = slice_index starts i; end = slice_index starts (i + 1); count = 1 }

module _ (records : List Record) (starts : List ℕ) (at : AreStarts records starts) where
  -- one record's bytes are those from one place to the next
  end_of : (i : ℕ) (one : Record) → i < length records → records ≡ take i records ++ one ∷ drop (i + 1) records → slice_index starts (i + 1) ≡ slice_index starts i + length (bytes_of (one ∷ []))
  end_of i one within whole =
      let front : List ℕ = bytes_of (take i records) in
      let more : List ℕ = bytes_of (take (i + 1) records) in
      let back : List ℕ = bytes_of (drop (i + 1) records) in
      let cell : List ℕ = pair_image (pair_of one) in
      let all : length (bytes_of records) ≡ length front + (length cell + length back) =
      ap (λ (l : List Record). length (bytes_of l)) whole ∙ ap length (bytes_of-append (take i records) (one ∷ drop (i + 1) records)) ∙ omega (arith, length-append front (cell ++ back), length-append cell back) in
      let same : length (bytes_of records) ≡ length more + length back =
      ap (λ (l : List Record). length (bytes_of l)) (sym (take-append-drop (i + 1) records)) ∙ ap length (bytes_of-append (take (i + 1) records) (drop (i + 1) records)) ∙ length-append more back in
      omega (arith, all, same, at i (omega (arith, within)), at (i + 1) (omega (arith, within)), length-append cell [])

  -- over the record that is found there
  pub edit_over : (item : Record) (i : ℕ) → IsFound (place_of item) records i → IsEdit records (item ∷ []) (with_record item records) (over starts i)
  edit_over item i found = record {
    front = take i records;
    middle = found.found ∷ [];
    back = drop (i + 1) records;
    old_is = found.cut.whole;
    new_is = with_record-cut item records (take i records) (Some found.found) (drop (i + 1) records) found.cut;
    start = at i (omega (arith, found.within));
    end = end_of i found.found found.within found.cut.whole;
    count = refl;
  }

  -- before the first that stands behind it
  pub edit_before : (item : Record) (i : ℕ) → IsPlaceIn (place_of item) records i → value_at (place_of item) records ≡ None
      → IsEdit records (item ∷ []) (with_record item records) (record { start = slice_index starts i; end = slice_index starts i; count = 0 })
  edit_before item i place none =
      let whole : records ≡ take i records ++ drop i records = sym (take-append-drop i records) in
      let after = all_after (place_of item) (drop i records) place.rest (apart_drop _ i records (all_apart (place_of item) records none)) in
      record {
        front = take i records;
        middle = [];
        back = drop i records;
        old_is = whole;
        new_is = with_record-cut item records (take i records) None (drop i records) (record { whole = whole; before = place.before; here = tt; after = after });
        start = at i place.within;
        end = omega arith;
        count = refl;
      }

  -- without the one of an index
  pub edit_out : (i : ℕ) (d : Record) → i < length records → IsEdit records [] (remove records i) (over starts i)
  edit_out i d within =
      let whole = cut_at records i d within in
      record {
        front = take i records;
        middle = get_or records i d ∷ [];
        back = drop (i + 1) records;
        old_is = whole;
        new_is = ap (λ (n : ℕ). take i records ++ drop n records) (suc-eq-add-one i);
        start = at i (omega (arith, within));
        end = end_of i (get_or records i d) within whole;
        count = refl;
      }

-- ---- the record of a key

all_at : (P : Record → Type 0) (records : List Record) (i : ℕ) (d : Record) → AllByRecursion P records → i < length records → P (get_or records i d)
all_at P [] i d all within = absurd (omega (arith, within))
all_at P (r ∷ records) zero d all within = all.0
all_at P (r ∷ records) (suc i) d all within = all_at P records i d all.1 (omega (arith, within))

got : (records : List Record) (i : ℕ) (one : Record) → slice_get records i ≡ Some one → get_or records i one ≡ one
got [] i one is = cc
got (r ∷ records) zero one is = same_Some r one is
got (r ∷ records) (suc i) one is = got records i one is

module _ (pseudokey : ℕ) (key : List ℕ) (records : List Record) (rising : IsRising records) (hashed : AllByRecursion (λ r. r.key ≡ key → r.pseudokey ≡ pseudokey) records) where
  pub key_found : (spot : Spot) (value : List ℕ) → IsKeyAt key records spot value → IsStood (pseudokey, key) records (Some spot) × (Some value ≡ value_at (pseudokey, key) records)
  key_found spot value at =
      let one = at.one in
      let is : get_or records spot.index one ≡ one = got records spot.index one at.at in
      let same_key : (get_or records spot.index one).key ≡ key = ap (λ (r : Record). r.key) is ∙ at.key_is in
      let same_word = all_at (λ r. r.key ≡ key → r.pseudokey ≡ pseudokey) records spot.index one hashed at.within same_key in
      let place : place_of (get_or records spot.index one) ≡ (pseudokey, key) = ap (λ (n : ℕ). (n, (get_or records spot.index one).key)) same_word ∙ ap (λ (k : List ℕ). (pseudokey, k)) same_key in
      let found = found_one (pseudokey, key) records spot.index one rising at.within place in
      let there : found.found ≡ one = same_Some found.found one (sym found.at ∙ at.at) in
      ((at.spot_is, found), ap Some (at.value_is ∙ ap (λ (r : Record). r.value) (sym there)) ∙ sym (value_at-cut (pseudokey, key) records _ (Some found.found) _ found.cut))

-- none where no record has the key
pub key_missing : (pseudokey : ℕ) (key : List ℕ) (records : List Record) → AllByRecursion (λ r. r.key ≢ key) records → value_at (pseudokey, key) records ≡ None
key_missing pseudokey key records none = no_value (pseudokey, key) records (AllByRecursion-weaker _ _ (λ r differ same. differ (ap (λ (p : Place). p.1) same)) records none)
