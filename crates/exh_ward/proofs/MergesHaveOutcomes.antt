-- What a merge is computed to be is what the relation gives.
use Rattle.std.proofs.Common.{◌≡◌, ℕ, ◌+◌, ◌-◌, ◌^◌, ◌<◌, ◌≤◌, Bool, true, false, List, [], ◌∷◌, ◌++◌, length, get_or, slice_get, Option, None, Some, Result, Ok, Err, inl, inr, refl, sym, ap, ◌∙◌, subst, arith}
use Rattle.std.specs.Option.{option_map_or}
use Rattle.std.proofs.lemmas.Bool.{cases_lt, cases_eq, false≢true}
use Rattle.std.proofs.lemmas.List.{length_push, take_all}
use Rattle.std.proofs.lemmas.Option.{slice_get_within}
use Rattle.exh_prefix.specs.Prefix.{IsFront, low_of}
use Rattle.exh_prefix.specs.PrefixLemmas.{last_split}
use Rattle.exh_notice.specs.declared.entry.Kind.TheVariants.{Merge}
use Rattle.exh_notice.specs.declared.notice.Notice.{Notice}
use Rattle.exh_page.specs.declared.page.Page.{Page}
use Rattle.exh_page.specs.declared.page.Page.TheVariants.{Live, Forward}
use Rattle.exh_page.specs.declared.record.Record.{Record}
use Rattle.exh_page.specs.PageLaws.{AreOfWords}
use Rattle.exh_legal.specs.BareLemmas.{bare_at}
use Rattle.exh_legal.specs.Change.{IsMerge}
use Rattle.exh_legal.specs.LegalLaws.{IsChanged, MergesKeepLegal}
use Rattle.exh_legal.specs.ChangeNumbers.{next_notice, number_at}
use Rattle.exh_legal.specs.Pages.{IsAt, AreLinked, bare}
use Rattle.exh_ward.specs.WardLaws.{IsMergeOutcome}
use Rattle.exh_ward.specs.MergeFunction.{is_live_of, buddy_number, merge_of, merged, ward_after_merge}
use Rattle.exh_ward.specs.MergeStep.{IsLeftChild, IsBuddy, HasNoBuddy, IsMergeStep}
use Rattle.exh_ward.specs.WardFault.{MergeRefused}
use Rattle.exh_ward.specs.PlacedPages.{with_page, ward_after}
use Rattle.exh_ward.specs.WardState.{WardState, IsSound, own_prefix}
use Rattle.exh_ward.specs.declared.ward_fault.WardFault.{WardFault}
use Rattle.exh_ward.specs.declared.ward_fault.WardFault.TheVariants.{NoPage, NotLive, NoBuddy, BuddySplit, TooMany, Worn}
use Rattle.exh_ward.proofs.MergesAreComputed.{last_is, live_passes, passes_live, at_page, no_page, no_left_child, split_buddy, many, worn, noticed, pages_are}
use Rattle.exh_ward.proofs.PlacedPages.{put_here, put_else, put_length, is_first}
use Rattle.exh_ward.proofs.SplitsHaveOutcomes.{past_last}

-- ---- prefixes

-- a front that is as long is all
whole_front : (front bits : List Bool) → IsFront front bits → length bits ≤ length front → bits ≡ front
whole_front front bits is long = sym (take_all (length front) bits long) ∙ is

-- children of one prefix differ
children_differ : (parent : List Bool) → parent ++ false ∷ [] ≡ parent ++ true ∷ [] → ⊥
children_differ parent same = false≢true (sym (last_is parent false) ∙ ap (λ bits. get_or bits (length bits - 1) true) same ∙ last_is parent true)

module _ {K : Type 0} (ward : WardState K) (at : ℕ) where
  abbrev Comes : Type 0
  Comes = IsMergeOutcome ward at (merge_of ward at) (ward_after_merge ward at)

  comes : (result : Result Notice WardFault) (pages : List Page) → merge_of ward at ≡ result → option_map_or (merged ward.pages at) (slice_get ward.pages at) ward.pages ≡ pages
      → IsMergeOutcome ward at result (ward_after ward result pages) → Comes
  unfolding ward_after_merge
  comes result pages is made outcome =
      let P : Result Notice WardFault → List Page → Type 0 = λ result pages. IsMergeOutcome ward at result (ward_after ward result pages) in
      subst (P (merge_of ward at)) (sym made) (subst (λ result. P result pages) (sym is) outcome)

  refused : (fault : WardFault) → merge_of ward at ≡ Err fault → MergeRefused ward at fault → Comes
  refused fault is refusal = comes (Err fault) (option_map_or (merged ward.pages at) (slice_get ward.pages at) ward.pages) is refl (refusal, refl)

  module _ (pseudo : List ℕ → ℕ) (words : AreOfWords pseudo) (sound : IsSound pseudo ward) (law : MergesKeepLegal) where
    linked : AreLinked (own_prefix ward) (bare ward.pages)
    linked = sound.legal.legal.legal.linked

    module _ (parent : List Bool) (link : Option ℕ) (records : List Record) (there : IsAt ward.pages at (Live (parent ++ false ∷ []) link records)) (inner : length (own_prefix ward) ≤ length parent) where
      child : IsLeftChild ward at parent records
      child = record { link = link; there = there; inner = inner }

      module _ (right : ℕ) (right_link : Option ℕ) (others : List Record) (buddy : IsAt ward.pages right (Live (parent ++ true ∷ []) right_link others)) where
        abbrev whole : Page
        whole = Live parent right_link (records ++ others)

        abbrev forward : Page
        forward = Forward (low_of (parent ++ true ∷ [])) at

        abbrev first : List Page
        first = with_page at whole ward.pages

        abbrev new : List Page
        new = with_page right forward first

        within : at < length ward.pages
        within = slice_get_within ward.pages at (Live (parent ++ false ∷ []) link records) there

        first_length : length first ≡ length ward.pages
        first_length = put_length ward.pages at whole within

        right_within : right < length first
        right_within = omega (arith, first_length, slice_get_within ward.pages right (Live (parent ++ true ∷ []) right_link others) buddy)

        apart : at ≡ right → ⊥
        apart same =
            let both : Some (Live (parent ++ false ∷ []) link records) ≡ Some (Live (parent ++ true ∷ []) right_link others) = sym there ∙ ap (slice_get ward.pages) same ∙ buddy in
            let prefixes : parent ++ false ∷ [] ≡ parent ++ true ∷ [] = cc in
            children_differ parent prefixes

        module _ (few : length records + length others ≤ ward.cap) where
          merge : IsMerge ward.cap ward.pages at parent new
          merge = record {
            right = right;
            left_link = link;
            right_link = right_link;
            left_records = records;
            right_records = others;
            there = there;
            buddy = buddy;
            few = few;
            merged = put_else first right at forward (omega (arith, right_within)) apart ∙ put_here ward.pages at whole (omega (arith, within));
            forwards = put_here first right forward (omega (arith, right_within));
            others = λ number else elsewhere. put_else first right number forward (omega (arith, right_within)) elsewhere ∙ put_else ward.pages at number whole (omega (arith, within)) else;
            same = put_length first right forward right_within ∙ first_length;
          }

          abbrev notice : Notice
          notice = next_notice ward.number ward.table parent Merge

          changed : IsChanged ward.cap pseudo (own_prefix ward) ward.start ward.notices ward.table ward.pages notice new
          changed = law ward.cap pseudo (own_prefix ward) ward.start ward.notices ward.table ward.pages at parent new notice words sound.legal merge refl refl refl

          step : IsMergeStep ward at notice (ward_after ward (Ok notice) new)
          step = record { merge = merge; notice_is = refl; map = changed.map; places = changed.places; others = refl }

          merge_comes : (number_at ward.table parent ≡ 2 ^ 32 - 1 → ⊥) → Comes
          merge_comes unworn =
              comes (Ok notice) new (noticed ward at parent link records there inner linked right right_link others buddy few unworn)
              (pages_are ward at parent link records there inner linked right right_link others buddy) step

        both_come : Comes
        both_come = elim (cases_lt ward.cap (length records + length others)) [
          | inl more ↦ refused (TooMany (length records + length others)) (many ward at parent link records there inner linked right right_link others buddy more) (parent, records, others, child, (right, right_link, buddy), refl, more)
          | inr few ↦ elim (cases_eq (number_at ward.table parent) (2 ^ 32 - 1)) as (λ _. Comes) [
            | inl last ↦ refused Worn (worn ward at parent link records there inner linked right right_link others buddy few last) (parent, records, others, child, (right, right_link, buddy), few, last)
            | inr unworn ↦ merge_comes few unworn
          ]
        ]

      child_comes : Comes
      child_comes = elim (is_first (is_live_of (parent ++ true ∷ [])) ward.pages) [
        | inl is ↦
            let live = passes_live (parent ++ true ∷ []) is.0 is.2 in
            both_come (buddy_number ward.pages parent) live.0 live.1 (is.1 ∙ ap Some live.2)
        | inr is ↦
            let none : (others : List Record) → IsBuddy ward parent others → ⊥ = λ others buddy. is.1 buddy.0 (Live (parent ++ true ∷ []) buddy.1 others) buddy.2 (live_passes (parent ++ true ∷ []) buddy.1 others) in
            refused BuddySplit (split_buddy ward at parent link records there inner none) (parent, records, child, none)
      ]

    module _ (prefix : List Bool) (link : Option ℕ) (records : List Record) (there : IsAt ward.pages at (Live prefix link records)) where
      lone : HasNoBuddy ward prefix → Comes
      lone none = refused NoBuddy (at_page ward at (Live prefix link records) there ∙ rw (no_left_child ward at prefix none) refl) (prefix, link, records, there, none)

      by_last : length (own_prefix ward) < length prefix → (parent : List Bool) (last : Bool) → prefix ≡ parent ++ last ∷ [] → Comes
      by_last longer parent true same = lone (inr (parent, same))
      by_last longer parent false same = child_comes parent link records (there ∙ ap (λ p. Some (Live p link records)) same) (omega (arith, longer, ap length same, length_push parent false))

      live_comes : Comes
      live_comes = elim (cases_lt (length (own_prefix ward)) (length prefix)) [
        | inl longer ↦ let split = last_split prefix (omega arith) in by_last longer split.0 split.1 split.2
        | inr short ↦ lone (inl (whole_front (own_prefix ward) prefix (linked.within at (Live prefix link []) (bare_at ward.pages at (Live prefix link records) there)).0 short))
      ]

    page_comes : (found : Option Page) → slice_get ward.pages at ≡ found → Comes
    page_comes None is = let past = past_last ward.pages at is in refused NoPage (no_page ward at past) past
    page_comes (Some (Forward low target)) is = refused NotLive (at_page ward at (Forward low target) is) (low, target, is)
    page_comes (Some (Live prefix link records)) is = live_comes prefix link records is

    pub merge_outcome : Comes
    merge_outcome = page_comes (slice_get ward.pages at) refl
