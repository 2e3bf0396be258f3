-- What a call at its home page leaves of the pages.
use Rattle.std.proofs.Common.{◌≡◌, ℕ, ◌≤◌, Bool, true, false, cond, leb, List, length, find, slice_get, Option, None, Some, inl, inr, refl, sym, ap, ◌∙◌, subst, arith, nat_cmp}
use Rattle.std.specs.Prelude.{slice_set}
use Rattle.std.specs.FinMap as fin
use Rattle.std.specs.List.{AllByRecursion}
use Rattle.std.specs.Option.{option_map, option_map_or}
use Rattle.std.specs.Ordering.{eq_by_cmp}
use Rattle.std.specs.Cmp.Lexicographic.{slice_cmp}
use Rattle.std.proofs.lemmas.Bool.{cases_eq, cases_Bool, leb-false, false_from_ne_true}
use Rattle.std.proofs.lemmas.Cmp.{nat_list_cmp_total}
use Rattle.std.proofs.lemmas.Map.Lookups.{exact_bytes}
use Rattle.exh_prefix.specs.Bits.{word_bits}
use Rattle.exh_prefix.specs.Prefix.{Begins, begins}
use Rattle.exh_prefix.specs.PrefixLemmas.{is_front-true, IsFront-from_test}
use Rattle.exh_prefix.specs.PrefixListLemmas.{set_here, set_else, is_equal, AllByRecursion-filter}
use Rattle.exh_page.specs.declared.page.Page.{Page}
use Rattle.exh_page.specs.declared.page.Page.TheVariants.{Live}
use Rattle.exh_page.specs.declared.record.Record.{Record}
use Rattle.exh_page.specs.Page.{AreRecordsOf, records_of}
use Rattle.exh_page.specs.Place.{Place}
use Rattle.exh_page.specs.Records.{is_at, value_at, with_record}
use Rattle.exh_page.specs.RecordsLemmas.{IsRising-filter, IsRising-with_record}
use Rattle.exh_page.specs.Values.{value_at-with_record, value_at-without_place, AllByRecursion-with_record, length-with_record_old, length-with_record_le, length-without_place}
use Rattle.exh_page.specs.KeyMap.{KeyMap}
use Rattle.exh_legal.specs.Pages.{map_of, IsAt, IsHome, IsLegalPage, IsLegal, AreLinked, bare}
use Rattle.exh_page.specs.KeyMapLemmas.{same_maps}
use Rattle.exh_legal.specs.MapLemmas.{place_of_key, get-map_of, get-map_of_pages, found_at, found_alike, none_elsewhere, page_at, all_pages}
use Rattle.exh_legal.specs.LegalPlaceLemmas.{bare_set}
use Rattle.exh_calls.specs.Call.{key_of}
use Rattle.exh_calls.specs.Effect.{Change, Keep, Set, Remove, Effect, effect_of}
use Rattle.exh_calls.specs.CallEffectLemmas.{full_sets_nothing}
use Rattle.exh_calls.specs.MapMachine.{effect_in, changed, map_after}
use Rattle.exh_ward.specs.PageAnswer.{records_changed, records_after}
use Rattle.exh_calls.specs.declared.call.Call.{Call}
use Rattle.exh_ward.proofs.HomeReplies.{AtHome, Fit, same_test_turned, effect_is}

-- a page with the records that a change leaves is legal, where what is set has room
legal_changed : (cap : ℕ) (pseudo : List ℕ → ℕ) (prefix : List Bool) (records : List Record) (change : Change) (key : List ℕ) → AreRecordsOf pseudo prefix records × (length records ≤ cap) → Begins prefix (pseudo key)
    → ((value : List ℕ) → change ≡ Set value → length (with_record (record { pseudokey = pseudo key; key = key; value = value }) records) ≤ cap)
    → AreRecordsOf pseudo prefix (records_changed change (pseudo key) key records) × (length (records_changed change (pseudo key) key records) ≤ cap)
legal_changed cap pseudo prefix records Keep key legal begins room = legal
legal_changed cap pseudo prefix records (Set value) key legal begins room = (
  record {
    rising = IsRising-with_record _ records legal.0.rising;
    hashed = AllByRecursion-with_record _ _ records refl legal.0.hashed;
    begun = AllByRecursion-with_record _ _ records begins legal.0.begun;
  },
  room value refl,
)
legal_changed cap pseudo prefix records Remove key legal begins room = (
  record {
    rising = IsRising-filter _ records legal.0.rising;
    hashed = AllByRecursion-filter _ _ records legal.0.hashed;
    begun = AllByRecursion-filter _ _ records legal.0.begun;
  },
  omega (arith, legal.1, length-without_place (place_of_key pseudo key) records),
)

-- what a call sets has room: the key was there, or the page isn't full
room_for : (cap : ℕ) (k : ℕ) (call : Call) (records : List Record) (full : Bool) (found : Option (List ℕ)) → length records ≤ cap → leb cap (length records) ≡ full → value_at (k, key_of call) records ≡ found
    → (value : List ℕ) → (effect_of call full found).change ≡ Set value → length (with_record (record { pseudokey = k; key = key_of call; value = value }) records) ≤ cap
room_for cap k call records full (Some old) few is found value set = omega (arith, few, length-with_record_old (record { pseudokey = k; key = key_of call; value = value }) records old found)
room_for cap k call records true None few is found value set = absurd (full_sets_nothing call value set)
room_for cap k call records false None few is found value set = omega (arith, leb-false cap (length records) is, length-with_record_le (record { pseudokey = k; key = key_of call; value = value }) records)

-- ---- the map

put_here : (pseudo : List ℕ → ℕ) (key value : List ℕ) (records : List Record) (m : KeyMap) (other : List ℕ) → fin.get m other ≡ value_at (place_of_key pseudo other) records
    → value_at (place_of_key pseudo other) (with_record (record { pseudokey = pseudo key; key = key; value = value }) records) ≡ fin.get (fin.insert m key value) other
put_here pseudo key value records m other found =
    value_at-with_record (place_of_key pseudo other) (record { pseudokey = pseudo key; key = key; value = value }) records
    ∙ ap (λ b. cond b (Some value) (value_at (place_of_key pseudo other) records)) (same_test_turned pseudo other key)
    ∙ ap (cond (eq_by_cmp (slice_cmp nat_cmp) other key) (Some value)) (sym found)
    ∙ sym (fin.get-insert nat_list_cmp_total m key value other)

-- what the page has after a change is what the map has
left_here : (pseudo : List ℕ → ℕ) (records : List Record) (m : KeyMap) (change : Change) (key other : List ℕ) → fin.get m other ≡ value_at (place_of_key pseudo other) records
    → value_at (place_of_key pseudo other) (records_changed change (pseudo key) key records) ≡ fin.get (changed change key m) other
left_here pseudo records m Keep key other found = sym found
left_here pseudo records m (Set value) key other found = put_here pseudo key value records m other found
left_here pseudo records m Remove key other found =
    value_at-without_place (place_of_key pseudo other) (place_of_key pseudo key) records
    ∙ ap (λ b. cond b None (value_at (place_of_key pseudo other) records)) (same_test_turned pseudo other key)
    ∙ ap (cond (eq_by_cmp (slice_cmp nat_cmp) other key) None) (sym found)
    ∙ sym (fin.get-remove nat_list_cmp_total m key other)

-- another key has what it had
left_else : (m : KeyMap) (change : Change) (key other : List ℕ) → eq_by_cmp (slice_cmp nat_cmp) other key ≡ false → fin.get (changed change key m) other ≡ fin.get m other
left_else m Keep key other differ = refl
left_else m (Set value) key other differ = fin.get-insert nat_list_cmp_total m key value other ∙ ap (λ b. cond b (Some value) (fin.get m other)) differ
left_else m Remove key other differ = fin.get-remove nat_list_cmp_total m key other ∙ ap (λ b. cond b None (fin.get m other)) differ

module _ {cap : ℕ} {pseudo : List ℕ → ℕ} {ward : List Bool} {pages : List Page} {at : ℕ} {prefix : List Bool} {link : Option ℕ} {records : List Record} {call : Call} (fit : Fit pseudo) (is : AtHome cap pseudo ward pages at prefix link records call) where
  abbrev key : List ℕ
  key = key_of call

  abbrev k : ℕ
  k = pseudo (key_of call)

  abbrev full : Bool
  full = leb cap (length records)

  abbrev value : Option (List ℕ)
  value = value_at (place_of_key pseudo (key_of call)) records

  abbrev left : List Record
  left = records_after (leb cap (length records)) (pseudo (key_of call)) call records

  abbrev new : List Page
  new = slice_set pages at (Live prefix link left)

  home_legal : AreRecordsOf pseudo prefix records × (length records ≤ cap)
  home_legal = page_at (IsLegalPage cap pseudo) pages at _ is.legal.each is.there

  pub left_legal : IsLegalPage cap pseudo (Live prefix link left)
  left_legal = legal_changed cap pseudo prefix records (effect_of call full value).change key home_legal is.home (room_for cap k call records full value home_legal.1 refl refl)

  new_here : IsAt new at (Live prefix link left)
  new_here = set_here pages at _ _ is.there

  page_new : (number : ℕ) (page : Page) → IsAt new number page → IsLegalPage cap pseudo page
  page_new number page is_page = elim (cases_eq number at) [
    | inl same ↦
        let both : Some (Live prefix link left) ≡ Some page = sym new_here ∙ ap (slice_get new) (sym same) ∙ is_page in
        let page_is : Live prefix link left ≡ page = cc in
        subst (IsLegalPage cap pseudo) page_is left_legal
    | inr else ↦ page_at (IsLegalPage cap pseudo) pages number page is.legal.each (sym (set_else pages at number (Live prefix link left) else) ∙ is_page)
  ]

  pub same_bare : bare new ≡ bare pages
  same_bare = bare_set pages at (Live prefix link records) left is.there

  pub new_legal : IsLegal cap pseudo ward new
  new_legal = record { each = all_pages (IsLegalPage cap pseudo) new page_new; linked = subst (AreLinked ward) (sym same_bare) is.legal.linked }

  -- a key that the page isn't home to is found where it was
  begun_not : (place : Place) → (Begins prefix place.0 → ⊥) → (pages : List Page) (records : List Record) → AllByRecursion (IsLegalPage cap pseudo) pages → IsAt pages at (Live prefix link records) → found_at (is_at place) pages at ≡ None
  begun_not place not pages records each there =
      none_elsewhere cap pseudo pages at place each (λ page is_page home.
      let both : Some page ≡ Some (Live prefix link records) = sym is_page ∙ there in
      let page_is : page ≡ Live prefix link records = cc in
      not (subst (λ page. IsHome page place.0) page_is home))

  found_else : (place : Place) → (Begins prefix place.0 → ⊥) → (number : ℕ) → found_at (is_at place) new number ≡ found_at (is_at place) pages number
  found_else place not number = elim (cases_eq number at) [
    | inl same ↦
        ap (found_at (is_at place) new) same ∙ begun_not place not new left new_legal.each new_here
        ∙ sym (begun_not place not pages records is.legal.each is.there) ∙ sym (ap (found_at (is_at place) pages) same)
    | inr else ↦ ap (λ found. option_map_or (λ page. find (is_at place) (records_of page)) found None) (set_else pages at number (Live prefix link left) else)
  ]

  map_at : (other : List ℕ) → fin.get (map_of new) other ≡ fin.get (map_after cap pseudo (map_of pages) call) other
  map_at other = elim (cases_Bool (begins prefix (pseudo other))) [
    | inl passes ↦
        let begun = IsFront-from_test prefix (word_bits (pseudo other)) passes in
        get-map_of cap pseudo ward new at _ other new_legal new_here begun
        ∙ left_here pseudo records (map_of pages) (effect_of call full value).change key other (get-map_of cap pseudo ward pages at _ other is.legal is.there begun)
        ∙ ap (λ (effect : Effect). fin.get (changed effect.change key (map_of pages)) other) (effect_is fit is)
    | inr fails ↦
        let not : Begins prefix (pseudo other) → ⊥ = λ begun. (let passes = is_front-true prefix (word_bits (pseudo other)) begun in cc) in
        let differ = false_from_ne_true (eq_by_cmp (slice_cmp nat_cmp) other key) (λ tied. not (subst (λ k. Begins prefix (pseudo k)) (sym (exact_bytes other key (is_equal _ tied))) is.home)) in
        get-map_of_pages cap pseudo new other new_legal.each
        ∙ ap (option_map (λ r. r.value)) (found_alike (is_at (place_of_key pseudo other)) new pages (found_else (place_of_key pseudo other) not))
        ∙ sym (get-map_of_pages cap pseudo pages other is.legal.each)
        ∙ sym (left_else (map_of pages) (effect_in cap pseudo (map_of pages) call).change key other differ)
  ]

  pub new_map : map_of new ≡ map_after cap pseudo (map_of pages) call
  new_map = same_maps (map_of new) (map_after cap pseudo (map_of pages) call) map_at
