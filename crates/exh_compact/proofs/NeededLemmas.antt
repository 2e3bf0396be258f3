-- Pages that are needed: by a map that has a key more, after a split and after an answer.
use Rattle.std.proofs.Common.{◌≡◌, ℕ, ◌+◌, ◌-◌, ◌<◌, Bool, true, false, List, [], ◌∷◌, ◌++◌, length, take, slice_get, Option, None, Some, inl, inr, refl, sym, ap, ◌∙◌, subst, arith}
use Rattle.std.specs.FinMap as fin
use Rattle.std.specs.Option.{option_map}
use Rattle.std.proofs.Math.Seq.{take-append_seam}
use Rattle.std.proofs.lemmas.Bool.{cases_eq}
use Rattle.std.proofs.lemmas.List.{length_push}
use Rattle.std.proofs.lemmas.Option.{slice_get-map}
use Rattle.exh_prefix.specs.Bits.{word_bits}
use Rattle.exh_prefix.specs.Prefix.{Begins, begins}
use Rattle.exh_prefix.specs.PrefixLemmas.{is_front-true}
use Rattle.exh_prefix.specs.PrefixListLemmas.{one_there}
use Rattle.exh_page.specs.KeyMap.{KeyMap}
use Rattle.exh_page.specs.Page.{begun_by, with_records}
use Rattle.exh_page.specs.declared.page.Page.{Page}
use Rattle.exh_page.specs.declared.page.Page.TheVariants.{Live, Forward}
use Rattle.exh_page.specs.declared.record.Record.{Record}
use Rattle.exh_legal.specs.BareLemmas.{bare_at}
use Rattle.exh_legal.specs.Change.{IsSplit}
use Rattle.exh_legal.specs.Pages.{IsAt, bare}
use Rattle.exh_compact.specs.Needed.{IsNeeded, begun_in, parent_of}
use Rattle.exh_compact.proofs.Begun.{no_fewer, one_more}

-- each page is needed by the keys of a map
abbrev pub AreNeededBy : ℕ → (List ℕ → ℕ) → List Bool → KeyMap → List Page → Type 0
AreNeededBy cap pseudo own m pages = (number : ℕ) (page : Page) → IsAt pages number page → IsNeeded cap pseudo own m page

parent_of_child : (prefix : List Bool) (bit : Bool) → parent_of (prefix ++ bit ∷ []) ≡ prefix
parent_of_child prefix bit =
    let less : length (prefix ++ bit ∷ []) - 1 ≡ length prefix = omega (arith, length_push prefix bit) in
    ap (λ (n : ℕ). take n (prefix ++ bit ∷ [])) less ∙ take-append_seam prefix (bit ∷ [])

module _ (cap : ℕ) (pseudo : List ℕ → ℕ) (own : List Bool) where
  -- ---- a key more

  needed_more : (m : KeyMap) (key value : List ℕ) (page : Page) → IsNeeded cap pseudo own m page → IsNeeded cap pseudo own (fin.insert m key value) page
  needed_more m key value (Live prefix right records) (inl first) = inl first
  needed_more m key value (Live prefix right records) (inr many) = inr (omega (arith, many, no_fewer (λ k. begins (parent_of prefix) (pseudo k)) m key value))
  needed_more m key value (Forward low target) none = absurd none

  pub all_needed_more : (m : KeyMap) (key value : List ℕ) (pages : List Page) → AreNeededBy cap pseudo own m pages → AreNeededBy cap pseudo own (fin.insert m key value) pages
  all_needed_more m key value pages are number page there = needed_more m key value page (are number page there)

  -- ---- a split

  half_needed : (m : KeyMap) (prefix : List Bool) (bit : Bool) (link : Option ℕ) (records : List Record) → cap < begun_in pseudo m prefix → IsNeeded cap pseudo own m (Live (prefix ++ bit ∷ []) link records)
  half_needed m prefix bit link records many = inr (subst (λ p. cap < begun_in pseudo m p) (sym (parent_of_child prefix bit)) many)

  pub split_needed : (m : KeyMap) (pages new : List Page) (at right : ℕ) (prefix : List Bool) → IsSplit cap pages at prefix right new → cap < begun_in pseudo m prefix
      → AreNeededBy cap pseudo own m pages → AreNeededBy cap pseudo own m new
  split_needed m pages new at right prefix parted many are number page there = elim (cases_eq number at) [
    | inl same ↦
        let is = one_there new at _ page parted.left (subst (λ n. IsAt new n page) same there) in
        subst (IsNeeded cap pseudo own m) is (half_needed m prefix false (Some right) (begun_by (prefix ++ false ∷ []) parted.records) many)
    | inr not_left ↦ elim (cases_eq number right) [
      | inl same ↦
          let is = one_there new right _ page parted.right_half (subst (λ n. IsAt new n page) same there) in
          subst (IsNeeded cap pseudo own m) is (half_needed m prefix true parted.link (begun_by (prefix ++ true ∷ []) parted.records) many)
      | inr not_right ↦ are number page (sym (parted.others number not_left not_right) ∙ there)
    ]
  ]

  -- ---- an answer, which changes no more than records

  to_bare : (m : KeyMap) (page : Page) → IsNeeded cap pseudo own m page → IsNeeded cap pseudo own m (with_records [] page)
  to_bare m (Live prefix right records) is = is
  to_bare m (Forward low target) is = is

  from_bare : (m : KeyMap) (page : Page) → IsNeeded cap pseudo own m (with_records [] page) → IsNeeded cap pseudo own m page
  from_bare m (Live prefix right records) is = is
  from_bare m (Forward low target) is = is

  found_needed : (m : KeyMap) (pages : List Page) (number : ℕ) (page : Page) (found : Option Page) → slice_get pages number ≡ found → option_map (with_records []) found ≡ Some page
      → AreNeededBy cap pseudo own m pages → IsNeeded cap pseudo own m page
  found_needed m pages number page None there is are = cc
  found_needed m pages number page (Some full) there is are =
      let same : with_records [] full ≡ page = cc in
      subst (IsNeeded cap pseudo own m) same (to_bare m full (are number full there))

  pub answered_needed : (m : KeyMap) (pages new : List Page) → bare new ≡ bare pages → AreNeededBy cap pseudo own m pages → AreNeededBy cap pseudo own m new
  answered_needed m pages new same are number page there =
      let stood : IsAt (bare pages) number (with_records [] page) = subst (λ (ps : List Page). IsAt ps number (with_records [] page)) same (bare_at new number page there) in
      from_bare m page (found_needed m pages number (with_records [] page) (slice_get pages number) refl (sym (slice_get-map (with_records []) pages number) ∙ stood) are)

-- a prefix that begins the new key begins one more
pub begun_more : (pseudo : List ℕ → ℕ) (m : KeyMap) (key value : List ℕ) (prefix : List Bool) → fin.get m key ≡ None → Begins prefix (pseudo key) → begun_in pseudo (fin.insert m key value) prefix ≡ begun_in pseudo m prefix + 1
begun_more pseudo m key value prefix absent begun = one_more (λ k. begins prefix (pseudo k)) m key value absent (is_front-true prefix (word_bits (pseudo key)) begun)
