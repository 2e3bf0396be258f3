-- A split of legal pages leaves them legal, and their map as it was.
use Rattle.std.proofs.Common.{◌≡◌, ℕ, ◌≤◌, Bool, true, false, List, [], ◌∷◌, ◌++◌, length, find, slice_get, Option, None, Some, ◌⊎◌, inl, inr, refl, sym, ap, ◌∙◌, subst, arith}
use Rattle.std.specs.List.{flat_map}
use Rattle.std.specs.Option.{option_map, option_map_or}
use Rattle.std.proofs.lemmas.Bool.{cases_eq, cases_Bool}
use Rattle.std.proofs.lemmas.List.Sums.{count_by-le-length, length-filter}
use Rattle.std.proofs.lemmas.Option.{slice_get_within}
use Rattle.exh_prefix.specs.Bits.{word_bits}
use Rattle.exh_prefix.specs.Prefix.{Begins, begins, low_of}
use Rattle.exh_prefix.specs.PrefixLemmas.{child_of_begun, parent_begins, is_front-true, IsFront-from_test}
use Rattle.exh_page.specs.declared.page.Page.{Page}
use Rattle.exh_page.specs.declared.page.Page.TheVariants.{Live, Forward}
use Rattle.exh_page.specs.declared.record.Record.{Record}
use Rattle.exh_page.specs.Page.{IsLive, low_bound, records_of, begun_by}
use Rattle.exh_page.specs.Place.{Place}
use Rattle.exh_page.specs.Records.{is_at}
use Rattle.exh_page.specs.ShareLemmas.{AreRecordsOf-begun_by}
use Rattle.exh_legal.specs.Pages.{map_of, IsAt, IsHome, IsLegalPage, IsLegal, bare}
use Rattle.exh_legal.specs.Change.{IsRevived, IsFresh, IsSplit}
use Rattle.exh_legal.specs.BareLemmas.{bare_at, at_bare, bare_low, bare_same}
use Rattle.exh_page.specs.KeyMapLemmas.{same_maps}
use Rattle.exh_legal.specs.MapLemmas.{place_of_key, found_at, found_alike, found_in_begun, page_at, all_pages, get-map_of_pages, found_at_home, none_elsewhere}
use Rattle.exh_legal.proofs.SplitLinks.{IsParted, parted_linked}

pub begun_few : (own : List Bool) (records : List Record) → length (begun_by own records) ≤ length records
begun_few own records = omega (arith, length-filter (λ r. begins own r.pseudokey) records, count_by-le-length (λ r. begins own r.pseudokey) records)

module _ {cap : ℕ} {pseudo : List ℕ → ℕ} {ward : List Bool} {pages : List Page} {at : ℕ} {prefix : List Bool} {right : ℕ} {new : List Page} (legal : IsLegal cap pseudo ward pages) (split : IsSplit cap pages at prefix right new) where
  abbrev high : ℕ
  high = low_of (prefix ++ true ∷ [])

  bare_was : IsRevived pages high right new ⊎ IsFresh pages high right new → (page : Page) → IsAt (bare pages) right page → (IsLive page → ⊥) × (low_bound page ≡ high)
  bare_was (inl revived) page is =
      let forward : IsAt (bare pages) right (Forward high revived.0.0) = bare_at pages right (Forward high revived.0.0) revived.0.1 in
      let same : page ≡ Forward high revived.0.0 = let both : Some page ≡ Some (Forward high revived.0.0) = sym is ∙ forward in cc in
      (λ live. subst IsLive same live, ap low_bound same)
  bare_was (inr fresh) page is =
      let full = at_bare pages right page is in
      absurd (omega (arith, slice_get_within pages right full.0 full.1, fresh.last))

  bare_alone : IsRevived pages high right new ⊎ IsFresh pages high right new → (number : ℕ) (page : Page) → IsAt (bare pages) number page → low_bound page ≡ high → number ≡ right
  bare_alone (inl revived) number page is same = legal.linked.apart number right page (Forward high revived.0.0) is (bare_at pages right (Forward high revived.0.0) revived.0.1) same
  bare_alone (inr fresh) number page is same =
      let full = at_bare pages number page is in
      absurd (fresh.none number full.0 full.1 (sym (bare_low full.0) ∙ sym (ap low_bound full.2) ∙ same))

  pub bare_parted : IsParted (bare pages) at prefix split.link right (bare new)
  bare_parted = record {
    there = bare_at pages at _ split.there;
    short = split.short;
    left = bare_at new at _ split.left;
    right_half = bare_at new right _ split.right_half;
    others = λ number else elsewhere. bare_same new pages number (split.others number else elsewhere);
    was = bare_was split.place;
    alone = bare_alone split.place;
  }

  parent_legal : IsLegalPage cap pseudo (Live prefix split.link split.records)
  parent_legal = page_at (IsLegalPage cap pseudo) pages at _ legal.each split.there

  half_legal : (bit : Bool) (next : Option ℕ) → IsLegalPage cap pseudo (Live (prefix ++ bit ∷ []) next (begun_by (prefix ++ bit ∷ []) split.records))
  half_legal bit next =
      (AreRecordsOf-begun_by pseudo prefix (prefix ++ bit ∷ []) split.records parent_legal.0, omega (arith, begun_few (prefix ++ bit ∷ []) split.records, parent_legal.1))

  same_at : (pages : List Page) (number other : ℕ) (one twin : Page) → number ≡ other → IsAt pages number one → IsAt pages other twin → twin ≡ one
  same_at pages number other one twin same is too = let both : Some twin ≡ Some one = sym too ∙ ap (slice_get pages) (sym same) ∙ is in cc

  page_legal : (number : ℕ) (page : Page) → IsAt new number page → IsLegalPage cap pseudo page
  page_legal number page is = elim (cases_eq number at) [
    | inl here ↦ subst (IsLegalPage cap pseudo) (same_at new number at page _ here is split.left) (half_legal false (Some right))
    | inr else ↦ elim (cases_eq number right) [
      | inl there ↦ subst (IsLegalPage cap pseudo) (same_at new number right page _ there is split.right_half) (half_legal true split.link)
      | inr elsewhere ↦ page_at (IsLegalPage cap pseudo) pages number page legal.each (sym (split.others number else elsewhere) ∙ is)
    ]
  ]

  pub split_legal : IsLegal cap pseudo ward new
  split_legal = record { each = all_pages (IsLegalPage cap pseudo) new page_legal; linked = parted_linked legal.linked bare_parted }

  -- ---- the map

  -- a key that the parent begins is found in the half that begins it
  found_in_half : (place : Place) → Begins prefix place.0 → find (is_at place) (flat_map records_of new) ≡ find (is_at place) (flat_map records_of pages)
  found_in_half place begins_it =
      let old = found_at_home cap pseudo ward pages at (Live prefix split.link split.records) place legal split.there begins_it in
      elim (child_of_begun prefix place.0 (omega (arith, split.short)) begins_it) [
        | inl lower ↦ found_at_home cap pseudo ward new at _ place split_legal split.left lower ∙ found_in_begun _ place split.records lower ∙ sym old
        | inr upper ↦ found_at_home cap pseudo ward new right _ place split_legal split.right_half upper ∙ found_in_begun _ place split.records upper ∙ sym old
      ]

  -- any other key is found where it was
  not_home : (place : Place) → (Begins prefix place.0 → ⊥) → (bit : Bool) → Begins (prefix ++ bit ∷ []) place.0 → ⊥
  not_home place not bit begins_it = not (parent_begins prefix place.0 bit begins_it)

  old_right : (place : Place) → IsRevived pages high right new ⊎ IsFresh pages high right new → (page : Page) → IsAt pages right page → IsHome page place.0 → ⊥
  old_right place (inl revived) page is home = subst (λ page. IsHome page place.0) (same_at pages right right (Forward high revived.0.0) page refl revived.0.1 is) home
  old_right place (inr fresh) page is home = omega (arith, slice_get_within pages right page is, fresh.last)

  half_none : (place : Place) (number : ℕ) (bit : Bool) (next : Option ℕ) → (Begins prefix place.0 → ⊥) → IsAt new number (Live (prefix ++ bit ∷ []) next (begun_by (prefix ++ bit ∷ []) split.records))
      → found_at (is_at place) new number ≡ None
  half_none place number bit next not is =
      none_elsewhere cap pseudo new number place split_legal.each (λ page is_page home.
      not_home place not bit (subst (λ page. IsHome page place.0) (same_at new number number _ page refl is is_page) home))

  found_elsewhere : (place : Place) → (Begins prefix place.0 → ⊥) → (number : ℕ) → found_at (is_at place) new number ≡ found_at (is_at place) pages number
  found_elsewhere place not number = elim (cases_eq number at) [
    | inl here ↦
        ap (found_at (is_at place) new) here ∙ half_none place at false (Some right) not split.left
        ∙ sym (none_elsewhere cap pseudo pages at place legal.each (λ page is home. not (subst (λ page. IsHome page place.0) (same_at pages at at _ page refl split.there is) home)))
        ∙ sym (ap (found_at (is_at place) pages) here)
    | inr else ↦ elim (cases_eq number right) [
      | inl there ↦
          ap (found_at (is_at place) new) there ∙ half_none place right true split.link not split.right_half
          ∙ sym (none_elsewhere cap pseudo pages right place legal.each (old_right place split.place))
          ∙ sym (ap (found_at (is_at place) pages) there)
      | inr elsewhere ↦ ap (λ found. option_map_or (λ page. find (is_at place) (records_of page)) found None) (split.others number else elsewhere)
    ]
  ]

  found_same : (place : Place) → find (is_at place) (flat_map records_of new) ≡ find (is_at place) (flat_map records_of pages)
  found_same place = elim (cases_Bool (begins prefix place.0)) [
    | inl passes ↦ found_in_half place (IsFront-from_test prefix (word_bits place.0) passes)
    | inr fails ↦ found_alike (is_at place) new pages (found_elsewhere place (λ is. let passes = is_front-true prefix (word_bits place.0) is in cc))
  ]

  pub split_map : map_of new ≡ map_of pages
  split_map = same_maps (map_of new) (map_of pages) (λ key.
      get-map_of_pages cap pseudo new key split_legal.each
      ∙ ap (option_map (λ r. r.value)) (found_same (place_of_key pseudo key))
      ∙ sym (get-map_of_pages cap pseudo pages key legal.each))
