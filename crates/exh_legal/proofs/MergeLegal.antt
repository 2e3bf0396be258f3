-- A merge of legal pages leaves them legal, and their map as it was.
use Rattle.std.proofs.Common.{◌≡◌, ℕ, Bool, true, false, List, [], ◌∷◌, ◌++◌, find, slice_get, None, Some, inl, inr, refl, sym, ap, ◌∙◌, subst, arith}
use Rattle.std.specs.List.{flat_map}
use Rattle.std.specs.Option.{option_map, option_map_or, option_or}
use Rattle.std.proofs.lemmas.Bool.{cases_eq, cases_Bool}
use Rattle.std.proofs.lemmas.List.{length-append}
use Rattle.std.proofs.lemmas.List.Folds.{find-append}
use Rattle.exh_prefix.specs.Bits.{word_bits}
use Rattle.exh_prefix.specs.Prefix.{Begins, begins, low_of}
use Rattle.exh_prefix.specs.PrefixLemmas.{child_of_begun, one_child_begins, parent_begins, is_front-true, IsFront-from_test}
use Rattle.exh_page.specs.declared.page.Page.{Page}
use Rattle.exh_page.specs.declared.page.Page.TheVariants.{Live, Forward}
use Rattle.exh_page.specs.PageLaws.{AreOfWords}
use Rattle.exh_page.specs.Page.{records_of}
use Rattle.exh_page.specs.Place.{Place}
use Rattle.exh_page.specs.Records.{is_at}
use Rattle.exh_page.specs.ShareLemmas.{AreRecordsOf-buddies}
use Rattle.exh_legal.specs.Pages.{map_of, IsAt, IsHome, IsLegalPage, IsLegal, bare}
use Rattle.exh_legal.specs.Change.{IsMerge}
use Rattle.exh_legal.specs.BareLemmas.{bare_at, bare_same}
use Rattle.exh_page.specs.KeyMapLemmas.{same_maps}
use Rattle.exh_legal.specs.MapLemmas.{place_of_key, found_at, found_alike, none_of_others, page_at, all_pages, get-map_of_pages, found_at_home, none_elsewhere, skip, or_none}
use Rattle.exh_legal.proofs.MergeLinks.{IsJoined, joined_linked, short}

module _ {cap : ℕ} {pseudo : List ℕ → ℕ} {ward : List Bool} {pages : List Page} {at : ℕ} {prefix : List Bool} {new : List Page} (words : AreOfWords pseudo) (legal : IsLegal cap pseudo ward pages) (merge : IsMerge cap pages at prefix new) where
  abbrev right : ℕ
  right = merge.right

  abbrev left_page : Page
  left_page = Live (prefix ++ false ∷ []) merge.left_link merge.left_records

  abbrev right_page : Page
  right_page = Live (prefix ++ true ∷ []) merge.right_link merge.right_records

  abbrev parent : Page
  parent = Live prefix merge.right_link (merge.left_records ++ merge.right_records)

  pub bare_joined : IsJoined (bare pages) at prefix merge.left_link right merge.right_link (bare new)
  bare_joined = record {
    there = bare_at pages at _ merge.there;
    buddy = bare_at pages right _ merge.buddy;
    merged = bare_at new at _ merge.merged;
    forwards = bare_at new right _ merge.forwards;
    others = λ number else elsewhere. bare_same new pages number (merge.others number else elsewhere);
  }

  left_legal : IsLegalPage cap pseudo left_page
  left_legal = page_at (IsLegalPage cap pseudo) pages at left_page legal.each merge.there

  right_legal : IsLegalPage cap pseudo right_page
  right_legal = page_at (IsLegalPage cap pseudo) pages right right_page legal.each merge.buddy

  parent_legal : IsLegalPage cap pseudo parent
  parent_legal = (
    AreRecordsOf-buddies pseudo prefix merge.left_records merge.right_records (omega (arith, short legal.linked bare_joined)) words left_legal.0 right_legal.0,
    omega (arith, merge.few, length-append merge.left_records merge.right_records),
  )

  same_at : (pages : List Page) (number other : ℕ) (one twin : Page) → number ≡ other → IsAt pages number one → IsAt pages other twin → twin ≡ one
  same_at pages number other one twin same is too = let both : Some twin ≡ Some one = sym too ∙ ap (slice_get pages) (sym same) ∙ is in cc

  page_legal : (number : ℕ) (page : Page) → IsAt new number page → IsLegalPage cap pseudo page
  page_legal number page is = elim (cases_eq number at) [
    | inl here ↦ subst (IsLegalPage cap pseudo) (same_at new number at page parent here is merge.merged) parent_legal
    | inr else ↦ elim (cases_eq number right) [
      | inl there ↦ subst (IsLegalPage cap pseudo) (same_at new number right page _ there is merge.forwards) tt
      | inr elsewhere ↦ page_at (IsLegalPage cap pseudo) pages number page legal.each (sym (merge.others number else elsewhere) ∙ is)
    ]
  ]

  pub merge_legal : IsLegal cap pseudo ward new
  merge_legal = record { each = all_pages (IsLegalPage cap pseudo) new page_legal; linked = joined_linked legal.linked bare_joined }

  -- ---- the map

  -- a key that the parent begins is found in the half that begins it, and so among the records of both
  found_in_parent : (place : Place) → Begins prefix place.0 → find (is_at place) (flat_map records_of new) ≡ find (is_at place) (flat_map records_of pages)
  found_in_parent place begins_it =
      let now = found_at_home cap pseudo ward new at parent place merge_legal merge.merged begins_it in
      elim (child_of_begun prefix place.0 (omega (arith, short legal.linked bare_joined)) begins_it) [
        | inl lower ↦
            let none = none_of_others (prefix ++ true ∷ []) place merge.right_records right_legal.0.begun (λ upper. one_child_begins prefix place.0 lower upper) in
            now ∙ find-append (is_at place) merge.left_records merge.right_records ∙ ap (option_or (find (is_at place) merge.left_records)) none
            ∙ or_none (find (is_at place) merge.left_records) ∙ sym (found_at_home cap pseudo ward pages at left_page place legal merge.there lower)
        | inr upper ↦
            let none = none_of_others (prefix ++ false ∷ []) place merge.left_records left_legal.0.begun (λ lower. one_child_begins prefix place.0 lower upper) in
            now ∙ skip (is_at place) merge.left_records merge.right_records none ∙ sym (found_at_home cap pseudo ward pages right right_page place legal merge.buddy upper)
      ]

  -- a page that isn't a key's home has nothing of it
  none_at : (pages : List Page) (number : ℕ) (page : Page) (place : Place) → IsLegal cap pseudo ward pages → IsAt pages number page → (IsHome page place.0 → ⊥) → found_at (is_at place) pages number ≡ None
  none_at pages number page place legal is not =
      none_elsewhere cap pseudo pages number place legal.each (λ other is_other home. not (subst (λ page. IsHome page place.0) (same_at pages number number page other refl is is_other) home))

  -- any other key is found where it was
  found_elsewhere : (place : Place) → (Begins prefix place.0 → ⊥) → (number : ℕ) → found_at (is_at place) new number ≡ found_at (is_at place) pages number
  found_elsewhere place not number = elim (cases_eq number at) [
    | inl here ↦
        ap (found_at (is_at place) new) here ∙ none_at new at parent place merge_legal merge.merged not
        ∙ sym (none_at pages at left_page place legal merge.there (λ lower. not (parent_begins prefix place.0 false lower)))
        ∙ sym (ap (found_at (is_at place) pages) here)
    | inr else ↦ elim (cases_eq number right) [
      | inl there ↦
          ap (found_at (is_at place) new) there ∙ none_at new right (Forward (low_of (prefix ++ true ∷ [])) at) place merge_legal merge.forwards (λ home. home)
          ∙ sym (none_at pages right right_page place legal merge.buddy (λ upper. not (parent_begins prefix place.0 true upper)))
          ∙ sym (ap (found_at (is_at place) pages) there)
      | inr elsewhere ↦ ap (λ found. option_map_or (λ page. find (is_at place) (records_of page)) found None) (merge.others number else elsewhere)
    ]
  ]

  found_same : (place : Place) → find (is_at place) (flat_map records_of new) ≡ find (is_at place) (flat_map records_of pages)
  found_same place = elim (cases_Bool (begins prefix place.0)) [
    | inl passes ↦ found_in_parent place (IsFront-from_test prefix (word_bits place.0) passes)
    | inr fails ↦ found_alike (is_at place) new pages (found_elsewhere place (λ is. let passes = is_front-true prefix (word_bits place.0) is in cc))
  ]

  pub merge_map : map_of new ≡ map_of pages
  merge_map = same_maps (map_of new) (map_of pages) (λ key.
      get-map_of_pages cap pseudo new key merge_legal.each
      ∙ ap (option_map (λ r. r.value)) (found_same (place_of_key pseudo key))
      ∙ sym (get-map_of_pages cap pseudo pages key legal.each))
