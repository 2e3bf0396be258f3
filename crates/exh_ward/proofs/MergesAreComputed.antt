-- A merge as a relation gives what it gives as a function.
use Rattle.std.proofs.Common.{◌≡◌, ◌⊎◌, ℕ, suc, ◌+◌, ◌-◌, ◌^◌, ◌<◌, ◌≤◌, Bool, true, false, not, ◌&&◌, List, [], ◌∷◌, ◌++◌, length, take, get_or, slice_get, Option, Some, Result, Ok, Err, inl, inr, refl, sym, ap, ◌∙◌, subst, arith}
use Rattle.std.specs.Prelude.{nat_eq, nat_lt}
use Rattle.std.specs.Option.{option_map_or}
use Rattle.std.proofs.lemmas.Bool.{le-leb, lt-leb, eqb-true, eq-eqb, cases_lt, false≢true, false_from_ne_true, and_parts}
use Rattle.std.proofs.lemmas.List.{length_push, get_or_push, take_at, take_all}
use Rattle.std.proofs.lemmas.Option.{slice_get_within, slice_get_past}
use Rattle.exh_prefix.specs.Prefix.{IsFront, low_of}
use Rattle.exh_prefix.specs.PrefixLemmas.{prefix_eq-exact}
use Rattle.exh_notice.specs.declared.entry.Kind.TheVariants.{Merge}
use Rattle.exh_notice.specs.declared.notice.Notice.{Notice}
use Rattle.exh_page.specs.declared.page.Page.{Page}
use Rattle.exh_page.specs.declared.page.Page.TheVariants.{Live, Forward}
use Rattle.exh_page.specs.declared.record.Record.{Record}
use Rattle.exh_page.specs.Page.{low_bound, records_of}
use Rattle.exh_legal.specs.BareLemmas.{bare_at}
use Rattle.exh_legal.specs.Change.{IsMerge}
use Rattle.exh_legal.specs.ChangeNumbers.{next_notice, number_at}
use Rattle.exh_legal.specs.Pages.{IsAt, AreLinked, bare}
use Rattle.exh_ward.specs.MergeFunction.{parent_of, is_left_child, is_live_of, buddy_number, merge_of_both, merge_of_page, merge_of, united, merged, ward_after_merge}
use Rattle.exh_ward.specs.MergeStep.{IsBuddy, HasNoBuddy, IsMergeStep}
use Rattle.exh_ward.specs.WardFault.{MergeRefused, IsStoreFault}
use Rattle.exh_ward.specs.PlacedPages.{with_page, ward_after}
use Rattle.exh_ward.specs.WardState.{WardState, own_prefix}
use Rattle.exh_ward.specs.declared.ward_fault.WardFault.{WardFault}
use Rattle.exh_ward.specs.declared.ward_fault.WardFault.TheVariants.{NoPage, NotLive, NoBuddy, BuddySplit, TooMany, Worn, Memory, Page as OutOfReach}
use Rattle.exh_ward.proofs.PlacedPages.{both_put, number_of_one, number_of_none}
use Rattle.exh_ward.proofs.SplitsAreComputed.{one_of_low}

and_false : (b : Bool) → (b && false) ≡ false
and_false true = refl
and_false false = refl

-- ---- prefixes

before_last : (parent : List Bool) (bit : Bool) → length (parent ++ bit ∷ []) - 1 ≡ length parent
before_last parent bit = omega (arith, length_push parent bit)

pub parent_is : (parent : List Bool) (bit : Bool) → parent_of (parent ++ bit ∷ []) ≡ parent
parent_is parent bit = ap (λ n. take n (parent ++ bit ∷ [])) (before_last parent bit) ∙ take_at parent (bit ∷ []) (length parent) refl

pub last_is : (parent : List Bool) (bit : Bool) → get_or (parent ++ bit ∷ []) (length (parent ++ bit ∷ []) - 1) true ≡ bit
last_is parent bit = get_or_push parent bit true (length (parent ++ bit ∷ []) - 1) (sym (before_last parent bit))

-- a front of both children is no longer than their parent
front_of_children : (own parent : List Bool) → IsFront own (parent ++ false ∷ []) → IsFront own (parent ++ true ∷ []) → length own ≤ length parent
front_of_children own parent left right = elim (cases_lt (length parent) (length own)) [
  | inl longer ↦
      let whole_left : parent ++ false ∷ [] ≡ own = sym (take_all (length own) (parent ++ false ∷ []) (omega (arith, length_push parent false))) ∙ left in
      let whole_right : parent ++ true ∷ [] ≡ own = sym (take_all (length own) (parent ++ true ∷ []) (omega (arith, length_push parent true))) ∙ right in
      let same : false ≡ true = sym (last_is parent false) ∙ ap (λ bits. get_or bits (length bits - 1) true) (whole_left ∙ sym whole_right) ∙ last_is parent true in
      absurd (false≢true same)
  | inr short ↦ short
]

-- ---- the live page of a prefix

pub live_passes : (prefix : List Bool) (link : Option ℕ) (records : List Record) → is_live_of prefix (Live prefix link records) ≡ true
live_passes prefix link records = (prefix_eq-exact prefix prefix).1 refl

passes_low : (prefix : List Bool) (page : Page) → is_live_of prefix page ≡ true → low_bound page ≡ low_of prefix
passes_low prefix (Live own link records) passes = eqb-true (low_of own) (low_of prefix) (and_parts _ _ passes).0
passes_low prefix (Forward low target) passes = cc

pub passes_live : (prefix : List Bool) (page : Page) → is_live_of prefix page ≡ true → (link : Option ℕ) × (records : List Record) × (page ≡ Live prefix link records)
passes_live prefix (Live own link records) passes = (link, records, ap (λ p. Live p link records) ((prefix_eq-exact own prefix).0 passes))
passes_live prefix (Forward low target) passes = cc

module _ {K : Type 0} (ward : WardState K) (at : ℕ) where
  pub at_page : (page : Page) → IsAt ward.pages at page → merge_of ward at ≡ merge_of_page ward page
  unfolding merge_of
  at_page page there = rw there refl

  pub no_page : length ward.pages ≤ at → merge_of ward at ≡ Err NoPage
  unfolding merge_of
  no_page past = rw (slice_get_past ward.pages at past) refl

  -- ---- left children

  abbrev longer : List Bool → Bool
  longer prefix = nat_lt (length (own_prefix ward)) (length prefix)

  abbrev ends_low : List Bool → Bool
  ends_low prefix = not (get_or prefix (length prefix - 1) true)

  left_child : (parent : List Bool) → length (own_prefix ward) ≤ length parent → is_left_child ward (parent ++ false ∷ []) ≡ true
  left_child parent inner =
      ap (λ b. longer (parent ++ false ∷ []) && not b) (last_is parent false)
      ∙ ap (λ b. b && true) (le-leb (suc (length (own_prefix ward))) (length (parent ++ false ∷ [])) (omega (arith, length_push parent false)))

  pub no_left_child : (prefix : List Bool) → HasNoBuddy ward prefix → is_left_child ward prefix ≡ false
  no_left_child prefix (inl own) = ap (λ b. b && ends_low prefix) (lt-leb (suc (length (own_prefix ward))) (length prefix) (omega (arith, ap length own)))
  no_left_child prefix (inr (parent, same)) =
      ap (is_left_child ward) same ∙ ap (λ b. longer (parent ++ true ∷ []) && not b) (last_is parent true) ∙ and_false (longer (parent ++ true ∷ []))

  -- what a left child comes to, by its buddy
  abbrev by_buddy : List Bool → List Record → Option Page → Result Notice WardFault
  by_buddy parent records found = option_map_or (λ buddy. merge_of_both ward parent (length records + length (records_of buddy))) found (Err BuddySplit)

  module _ (parent : List Bool) (link : Option ℕ) (records : List Record) (there : IsAt ward.pages at (Live (parent ++ false ∷ []) link records)) (inner : length (own_prefix ward) ≤ length parent) where
    by_pages : merge_of ward at ≡ by_buddy parent records (slice_get ward.pages (buddy_number ward.pages parent))
    by_pages =
        at_page (Live (parent ++ false ∷ []) link records) there
        ∙ rw (left_child parent inner) refl
        ∙ ap (λ p. by_buddy p records (slice_get ward.pages (buddy_number ward.pages p))) (parent_is parent false)

    -- no live page is the right child's
    pub split_buddy : ((others : List Record) → IsBuddy ward parent others → ⊥) → merge_of ward at ≡ Err BuddySplit
    split_buddy none =
        let number_is : buddy_number ward.pages parent ≡ length ward.pages = number_of_none (is_live_of (parent ++ true ∷ [])) ward.pages (λ number page is passes.
        let live = passes_live (parent ++ true ∷ []) page passes in
        none live.1 (number, live.0, is ∙ ap Some live.2)) in
        by_pages ∙ ap (by_buddy parent records) (slice_get_past ward.pages (buddy_number ward.pages parent) (omega (arith, number_is)))

    module _ (linked : AreLinked (own_prefix ward) (bare ward.pages)) (right : ℕ) (right_link : Option ℕ) (others : List Record) (buddy : IsAt ward.pages right (Live (parent ++ true ∷ []) right_link others)) where
      number_is : buddy_number ward.pages parent ≡ right
      number_is = number_of_one (is_live_of (parent ++ true ∷ [])) ward.pages right (Live (parent ++ true ∷ []) right_link others) buddy (live_passes (parent ++ true ∷ []) right_link others) (λ other twin is passes.
          one_of_low (own_prefix ward) ward.pages linked other right twin (Live (parent ++ true ∷ []) right_link others) is buddy (passes_low (parent ++ true ∷ []) twin passes))

      found : slice_get ward.pages (buddy_number ward.pages parent) ≡ Some (Live (parent ++ true ∷ []) right_link others)
      found = ap (slice_get ward.pages) number_is ∙ buddy

      both_are : merge_of ward at ≡ merge_of_both ward parent (length records + length others)
      both_are = by_pages ∙ ap (by_buddy parent records) found

      pub many : ward.cap < length records + length others → merge_of ward at ≡ Err (TooMany (length records + length others))
      many more = both_are ∙ rw (le-leb (suc ward.cap) (length records + length others) more) refl

      pub worn : length records + length others ≤ ward.cap → number_at ward.table parent ≡ 2 ^ 32 - 1 → merge_of ward at ≡ Err Worn
      worn few last = both_are ∙ rw (lt-leb (suc ward.cap) (length records + length others) (omega arith), eq-eqb (number_at ward.table parent) (2 ^ 32 - 1) last) refl

      pub noticed : length records + length others ≤ ward.cap → (number_at ward.table parent ≡ 2 ^ 32 - 1 → ⊥) → merge_of ward at ≡ Ok (next_notice ward.number ward.table parent Merge)
      noticed few unworn =
          let other : nat_eq (number_at ward.table parent) (2 ^ 32 - 1) ≡ false = false_from_ne_true _ (λ same. unworn (eqb-true (number_at ward.table parent) (2 ^ 32 - 1) same)) in
          both_are ∙ rw (lt-leb (suc ward.cap) (length records + length others) (omega arith), other) refl

      pub pages_are : option_map_or (merged ward.pages at) (slice_get ward.pages at) ward.pages
          ≡ with_page right (Forward (low_of (parent ++ true ∷ [])) at) (with_page at (Live parent right_link (records ++ others)) ward.pages)
      pages_are =
          ap (λ page. option_map_or (merged ward.pages at) page ward.pages) there
          ∙ ap (λ p. option_map_or (united ward.pages at p records) (slice_get ward.pages (buddy_number ward.pages p)) ward.pages) (parent_is parent false)
          ∙ ap (λ buddy. option_map_or (united ward.pages at parent records) buddy ward.pages) found
          ∙ ap (λ n. with_page n (Forward (low_of (parent ++ true ∷ [])) at) (with_page at (Live parent right_link (records ++ others)) ward.pages)) number_is

  -- ---- refusals

  module _ (linked : AreLinked (own_prefix ward) (bare ward.pages)) where
    pub merge_refused : (fault : WardFault) → MergeRefused ward at fault → IsStoreFault fault ⊎ (merge_of ward at ≡ Err fault)
    merge_refused NoPage is = inr (no_page is)
    merge_refused NotLive is = inr (at_page (Forward is.0 is.1) is.2)
    merge_refused NoBuddy (prefix, link, records, there, none) = inr (at_page (Live prefix link records) there ∙ rw (no_left_child prefix none) refl)
    merge_refused BuddySplit (parent, records, child, none) = inr (split_buddy parent child.link records child.there child.inner none)
    merge_refused (TooMany sum) (parent, records, others, child, buddy, sum_is, more) =
        inr (many parent child.link records child.there child.inner linked buddy.0 buddy.1 others buddy.2 (omega (arith, sum_is, more)) ∙ ap (λ n. Err (TooMany n)) (sym sum_is))
    merge_refused Worn (parent, records, others, child, buddy, few, last) = inr (worn parent child.link records child.there child.inner linked buddy.0 buddy.1 others buddy.2 few last)
    merge_refused Memory is = inl tt
    merge_refused OutOfReach is = inl tt
    merge_refused fault is = absurd is

    -- ---- a merge

    inner_of : (parent : List Bool) (new : List Page) → IsMerge ward.cap ward.pages at parent new → length (own_prefix ward) ≤ length parent
    inner_of parent new merge =
        let left = linked.within at (Live (parent ++ false ∷ []) merge.left_link []) (bare_at ward.pages at _ merge.there) in
        let right = linked.within merge.right (Live (parent ++ true ∷ []) merge.right_link []) (bare_at ward.pages merge.right _ merge.buddy) in
        front_of_children (own_prefix ward) parent left.0 right.0

    made : (parent : List Bool) (new : List Page) → IsMerge ward.cap ward.pages at parent new → new ≡ option_map_or (merged ward.pages at) (slice_get ward.pages at) ward.pages
    made parent new merge =
        both_put ward.pages new at merge.right (Live parent merge.right_link (merge.left_records ++ merge.right_records)) (Forward (low_of (parent ++ true ∷ [])) at)
        (slice_get_within ward.pages at _ merge.there) (omega (arith, slice_get_within ward.pages merge.right _ merge.buddy)) merge.merged merge.forwards merge.others
        ∙ sym (pages_are parent merge.left_link merge.left_records merge.there (inner_of parent new merge) linked merge.right merge.right_link merge.right_records merge.buddy)

    pub merge_is : (notice : Notice) (new : WardState K) → IsMergeStep ward at notice new → notice.number < 2 ^ 32 → (merge_of ward at ≡ Ok notice) × (new ≡ ward_after_merge ward at)
    unfolding ward_after_merge
    merge_is notice new step room =
        let merge = step.merge in
        let number : number_at ward.table notice.prefix + 1 < 2 ^ 32 = subst (λ n. n < 2 ^ 32) (ap (λ (n : Notice). n.number) step.notice_is) room in
        let is : merge_of ward at ≡ Ok notice =
        noticed notice.prefix merge.left_link merge.left_records merge.there (inner_of notice.prefix new.pages merge) linked merge.right merge.right_link merge.right_records merge.buddy merge.few (λ last. omega (arith, number, last))
        ∙ ap Ok (sym step.notice_is) in
        let pages = made notice.prefix new.pages merge in
        (is, step.others ∙ ap (ward_after ward (Ok notice)) pages ∙ ap (λ result. ward_after ward result (option_map_or (merged ward.pages at) (slice_get ward.pages at) ward.pages)) (sym is))
