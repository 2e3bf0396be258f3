-- Pages that may be merged, and what of them was read.
use Rattle.std.proofs.Common.{◌≡◌, ◌⊎◌, ℕ, ◌+◌, ◌/◌, ◌^◌, ◌-◌, ◌<◌, ◌≤◌, Bool, true, false, List, [], ◌∷◌, ◌++◌, length, slice_get, slice_set, Option, None, Some, inl, inr, refl, sym, ap, ◌∙◌, subst, arith}
use Rattle.std.proofs.lemmas.Bool.{false≢true}
use Rattle.std.proofs.lemmas.List.{length_push, same_from_push}
use Rattle.exh_prefix.specs.LowLemmas.{begins_own_low}
use Rattle.exh_prefix.specs.Prefix.{Begins, low_of}
use Rattle.exh_prefix.specs.PrefixLemmas.{low_of-left_child}
use Rattle.exh_page.specs.declared.page.Page.{Page}
use Rattle.exh_page.specs.declared.page.Page.TheVariants.{Forward, Live}
use Rattle.exh_page.specs.declared.record.Record.{Record}
use Rattle.exh_page.specs.Page.{low_bound, records_of}
use Rattle.exh_legal.specs.Pages.{IsHome}
use Rattle.exh_cells.specs.declared.cell.Cell.{Cell}
use Rattle.exh_cells.specs.declared.stamped_header.StampedHeader.{StampedHeader}
use Rattle.exh_cells.specs.PlacedFile.{PlacedFile}
use Rattle.exh_change.specs.PlacedSteps.{merged, slot_of}
use Rattle.exh_change.specs.StepLaws.{StandApart}
use Rattle.exh_change.specs.declared.draft.Draft.{Draft}
use Rattle.exh_change.specs.Changes.{IsOfPrefix, Settles, SettlesLeft}
use Rattle.exh_change.specs.Drafts.{IsOf}
use Rattle.exh_change.specs.Leaves.{IsOneOf, MayMerge, MayNotMerge, leaves_in, united_leaves}
use Rattle.exh_change.proofs.LeafLemmas.{leaf_prefix, leaf_there, leaves_set, page_of_leaf}
use Rattle.exh_change.proofs.MergeSteps.{of_prefix}

-- ---- which half a page is

abbrev pub IsHalfOf : List Bool → ℕ → List Bool → ℕ → ℕ → Type 0
IsHalfOf prefix place parent left right = ((place ≡ left) × (prefix ≡ parent ++ false ∷ [])) ⊎ ((place ≡ right) × (prefix ≡ parent ++ true ∷ []))

module _ (file : PlacedFile) (place : ℕ) (prefix : List Bool) (leaf : slice_get (leaves_in file) place ≡ Some (Some prefix)) where
  pub which_half : (parent : List Bool) (left right : ℕ) → IsOneOf place left right → MayMerge file parent left right → IsHalfOf prefix place parent left right
  which_half parent left right one may = by one
    where
      by : IsOneOf place left right → IsHalfOf prefix place parent left right
      by (inl same) =
          let both : Some (Some prefix) ≡ Some (Some (parent ++ false ∷ [])) = sym leaf ∙ ap (slice_get (leaves_in file)) same ∙ leaf_there file.pages left (Live (parent ++ false ∷ []) may.link may.records) may.left_is.page_is in
          inl (same, (cc))
      by (inr same) =
          let both : Some (Some prefix) ≡ Some (Some (parent ++ true ∷ [])) = sym leaf ∙ ap (slice_get (leaves_in file)) same ∙ leaf_there file.pages right (Live (parent ++ true ∷ []) may.right_link may.right_records) may.right_is in
          inr (same, (cc))

  -- a page of the ward's own prefix has no buddy
  pub no_buddy : length prefix ≤ file.header.settings.ward_bits → MayNotMerge file place
  no_buddy short parent left right one may = by (which_half parent left right one may)
    where
      by : IsHalfOf prefix place parent left right → ⊥
      by (inl (same, is)) = omega (arith, ap length is, length_push parent false, may.inner, short)
      by (inr (same, is)) = omega (arith, ap length is, length_push parent true, may.inner, short)

  pub left_settled : (parent : List Bool) → prefix ≡ parent ++ false ∷ [] → ((right : ℕ) → MayMerge file parent place right → ⊥) → MayNotMerge file place
  left_settled parent prefix_is not other left right one may = by (which_half other left right one may)
    where
      by : IsHalfOf prefix place other left right → ⊥
      by (inl (same, is)) =
          let both = same_from_push parent other false false (sym prefix_is ∙ is) in
          not right (subst (λ (parent : List Bool). MayMerge file parent place right) (sym both.0) (subst (λ (left : ℕ). MayMerge file other left right) (sym same) may))
      by (inr (same, is)) = false≢true (same_from_push parent other false true (sym prefix_is ∙ is)).1

  pub right_settled : StandApart file → (parent : List Bool) (at : ℕ) (page : Page) → prefix ≡ parent ++ true ∷ [] → length parent < 20 → slice_get file.pages at ≡ Some page → IsHome page (low_of parent) → ((right : ℕ) → MayMerge file parent at right → ⊥) → MayNotMerge file place
  right_settled apart parent at page prefix_is short there home not other left right one may = by (which_half other left right one may)
    where
      by : IsHalfOf prefix place other left right → ⊥
      by (inl (same, is)) = false≢true (sym (same_from_push parent other true false (sym prefix_is ∙ is)).1)
      by (inr (same, is)) =
          let both = same_from_push parent other true true (sym prefix_is ∙ is) in
          let own : MayMerge file parent left right = subst (λ (parent : List Bool). MayMerge file parent left right) (sym both.0) may in
          let begins : Begins (parent ++ false ∷ []) (low_of parent) = subst (Begins (parent ++ false ∷ [])) (low_of-left_child parent (omega (arith, short))) (begins_own_low (parent ++ false ∷ []) (omega (arith, length_push parent false, short))) in
          let left_is : left ≡ at = apart.homes (low_of parent) left at (Live (parent ++ false ∷ []) own.link own.records) page own.left_is.page_is there begins home in
          not right (subst (λ (left : ℕ). MayMerge file parent left right) left_is own)

  -- the right half is the page
  pub right_one : StandApart file → (parent : List Bool) (left right : ℕ) → prefix ≡ parent ++ true ∷ [] → MayMerge file parent left right → IsOneOf place left right
  right_one apart parent left right prefix_is may =
      let own = page_of_leaf file.pages place (Some prefix) leaf in
      let live = of_prefix prefix own.0 (leaf_prefix own.0 prefix own.2) in
      let low : low_bound own.0 ≡ low_of (parent ++ true ∷ []) = ap low_bound live.1 ∙ ap low_of prefix_is in
      inr (apart.lows place right own.0 (Live (parent ++ true ∷ []) may.right_link may.right_records) own.1 may.right_is low)

  -- ---- from the left half to the page

  module _ (base : List ℕ) (old new : Draft) (parent : List Bool) where
    pub left_settles : prefix ≡ parent ++ false ∷ [] → SettlesLeft base file parent place old new → Settles base file place old new
    left_settles prefix_is (inl (right, united)) = inl (record { prefix = parent; left = place; right = right; one = inl refl; united = united })
    left_settles prefix_is (inr (not, same)) = inr (left_settled parent prefix_is not, same)

    pub right_settles : StandApart file → (at : ℕ) (page : Page) → prefix ≡ parent ++ true ∷ [] → length parent < 20 → slice_get file.pages at ≡ Some page → IsHome page (low_of parent) → SettlesLeft base file parent at old new → Settles base file place old new
    right_settles apart at page prefix_is short there home (inl (right, united)) = inl (record { prefix = parent; left = at; right = right; one = right_one apart parent at right prefix_is united.may; united = united })
    right_settles apart at page prefix_is short there home (inr (not, same)) = inr (right_settled apart parent at page prefix_is short there home not, same)

-- ---- what was read

module _ (base : List ℕ) (draft : Draft) (file : PlacedFile) (is : IsOf base draft file) (place : ℕ) (parent : List Bool) (page : Page) (page_is : slice_get file.pages place ≡ Some page) where
  -- the page isn't the left half
  pub not_left : (IsOfPrefix (parent ++ false ∷ []) page → ⊥) → (right : ℕ) → MayMerge file parent place right → ⊥
  not_left other right may =
      let both : Some page ≡ Some (Live (parent ++ false ∷ []) may.link may.records) = sym page_is ∙ may.left_is.page_is in
      let same : Live (parent ++ false ∷ []) may.link may.records ≡ page = cc in
      other (subst (IsOfPrefix (parent ++ false ∷ [])) same refl)

  module _ (cell : Cell) (right : Page) (cell_is : slice_get file.cells place ≡ Some cell) (right_is : slice_get file.pages (slot_of cell (length parent)).page ≡ Some right) where
    abbrev at : ℕ
    at = (slot_of cell (length parent)).page

    abbrev number : ℕ
    number = (slot_of cell (length parent)).number

    pub not_both : StandApart file → low_bound right ≡ low_of (parent ++ true ∷ []) → (number < 2 ^ 32 - 1 → IsOfPrefix (parent ++ true ∷ []) right → length (records_of page) + length (records_of right) ≤ draft.header.settings.cap / 2 → ⊥) → (other : ℕ) → MayMerge file parent place other → ⊥
    not_both apart low not other may =
        let half = Live (parent ++ true ∷ []) may.right_link may.right_records in
        let pages : Some page ≡ Some (Live (parent ++ false ∷ []) may.link may.records) = sym page_is ∙ may.left_is.page_is in
        let page_same : page ≡ Live (parent ++ false ∷ []) may.link may.records = cc in
        let cells : Some may.cell ≡ Some cell = sym may.left_is.cell_is ∙ cell_is in
        let cell_same : may.cell ≡ cell = cc in
        let other_same : at ≡ other = apart.lows at other right half right_is may.right_is low in
        let rights : Some right ≡ Some half = sym right_is ∙ ap (slice_get file.pages) other_same ∙ may.right_is in
        let right_same : right ≡ half = cc in
        let small : number < 2 ^ 32 - 1 = subst (λ (cell : Cell). (slot_of cell (length parent)).number < 2 ^ 32 - 1) cell_same may.number in
        not small (subst (IsOfPrefix (parent ++ true ∷ [])) (sym right_same) refl)
        (omega (arith, may.few, ap (λ (page : Page). length (records_of page)) page_same, ap (λ (page : Page). length (records_of page)) right_same, ap (λ (header : StampedHeader). header.settings.cap) is.header))

    pub may_both : (left_live : IsOfPrefix (parent ++ false ∷ []) page) (right_live : IsOfPrefix (parent ++ true ∷ []) right) → number < 2 ^ 32 - 1 → length (records_of page) + length (records_of right) ≤ draft.header.settings.cap / 2 → draft.header.settings.ward_bits ≤ length parent → MayMerge file parent place at
    may_both left_live right_live small few inner =
        let live = of_prefix (parent ++ false ∷ []) page left_live in
        let other = of_prefix (parent ++ true ∷ []) right right_live in
        record {
          link = live.0;
          right_link = other.0;
          records = records_of page;
          right_records = records_of right;
          cell = cell;
          left_is = record { page_is = page_is ∙ ap (λ (page : Page). Some page) live.1; cell_is = cell_is };
          right_is = right_is ∙ ap (λ (page : Page). Some page) other.1;
          few = omega (arith, few, ap (λ (header : StampedHeader). header.settings.cap) is.header);
          inner = omega (arith, inner, ap (λ (header : StampedHeader). header.settings.ward_bits) is.header);
          number = small;
        }

pub merged_leaves : (file : PlacedFile) (place right : ℕ) (parent : List Bool) (link : Option ℕ) (records more : List Record) (cell : Cell) → leaves_in (merged place right parent link records more cell file) ≡ united_leaves parent place right file
merged_leaves file place right parent link records more cell =
    let left : Page = Live parent link (records ++ more) in
    let sent : Page = Forward (low_of (parent ++ true ∷ [])) cell.number in
    leaves_set (slice_set file.pages place left) right sent ∙ ap (λ (leaves : List (Option (List Bool))). slice_set leaves right None) (leaves_set file.pages place left)
