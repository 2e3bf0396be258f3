-- What a split is computed to be is what the relation gives.
use Rattle.std.proofs.Common.{◌≡◌, ◌⊎◌, ℕ, suc, ◌+◌, ◌<◌, ◌≤◌, Bool, true, List, [], ◌∷◌, ◌++◌, length, slice_get, Option, None, Some, Result, Ok, Err, inl, inr, refl, sym, ap, ◌∙◌, subst, arith}
use Rattle.std.specs.Prelude.{nat_eq}
use Rattle.std.specs.Option.{option_map_or}
use Rattle.std.proofs.lemmas.Bool.{cases_lt, le-leb, lt-leb, eqb-true, eq-eqb}
use Rattle.std.proofs.lemmas.Option.{slice_get_within, slice_get_cases}
use Rattle.exh_prefix.specs.declared.prefix.TheConstants.{LIMIT}
use Rattle.exh_prefix.specs.Prefix.{low_of}
use Rattle.exh_notice.specs.declared.entry.Kind.TheVariants.{Split}
use Rattle.exh_notice.specs.declared.notice.Notice.{Notice}
use Rattle.exh_page.specs.declared.page.Page.{Page}
use Rattle.exh_page.specs.declared.page.Page.TheVariants.{Live, Forward}
use Rattle.exh_page.specs.declared.record.Record.{Record}
use Rattle.exh_page.specs.Page.{low_bound}
use Rattle.exh_legal.specs.Change.{IsRevived, IsFresh, IsSplit}
use Rattle.exh_legal.specs.LegalLaws.{IsChanged, LivePagesSplit, SplitsKeepLegal}
use Rattle.exh_prefix.specs.LowLemmas.{right_above}
use Rattle.exh_legal.specs.ChangeNumbers.{next_notice}
use Rattle.exh_legal.specs.Pages.{IsAt}
use Rattle.exh_ward.specs.WardLaws.{IsSplitOutcome}
use Rattle.exh_ward.specs.PlacedPages.{with_page, ward_after}
use Rattle.exh_ward.specs.SplitFunction.{right_number, left_half, right_half, split_of, halved, ward_after_split}
use Rattle.exh_ward.specs.WardFault.{SplitRefused}
use Rattle.exh_ward.specs.SplitStep.{IsSplitStep}
use Rattle.exh_ward.specs.WardState.{WardState, IsSound, own_prefix}
use Rattle.exh_ward.specs.declared.ward_fault.WardFault.{WardFault}
use Rattle.exh_ward.specs.declared.ward_fault.WardFault.TheVariants.{NoPage, NotLive, NotFull, AtLimit}
use Rattle.exh_ward.proofs.PlacedPages.{put_here, put_else, put_length, put_last, IsFirst, is_first}
use Rattle.exh_ward.proofs.SplitsAreComputed.{at_page, no_page}

-- no page is past the last
pub past_last : {A : Type 0} (xs : List A) (number : ℕ) → slice_get xs number ≡ None → length xs ≤ number
past_last xs number is = elim (slice_get_cases xs number).1 [
  | inl some ↦ let both : None ≡ Some some.0 = sym is ∙ some.2 in cc
  | inr past ↦ past.0
]

module _ {K : Type 0} (ward : WardState K) (at : ℕ) where
  abbrev Comes : Type 0
  Comes = IsSplitOutcome ward at (split_of ward at) (ward_after_split ward at)

  comes : (result : Result Notice WardFault) (pages : List Page) → split_of ward at ≡ result → option_map_or (halved ward.pages at) (slice_get ward.pages at) ward.pages ≡ pages
      → IsSplitOutcome ward at result (ward_after ward result pages) → Comes
  unfolding ward_after_split
  comes result pages is made outcome =
      let P : Result Notice WardFault → List Page → Type 0 = λ result pages. IsSplitOutcome ward at result (ward_after ward result pages) in
      subst (P (split_of ward at)) (sym made) (subst (λ result. P result pages) (sym is) outcome)

  refused : (fault : WardFault) → split_of ward at ≡ Err fault → SplitRefused ward.cap ward.pages at fault → Comes
  refused fault is refusal = comes (Err fault) (option_map_or (halved ward.pages at) (slice_get ward.pages at) ward.pages) is refl (refusal, refl)

  module _ (pseudo : List ℕ → ℕ) (sound : IsSound pseudo ward) (ready : LivePagesSplit) (law : SplitsKeepLegal) where
    module _ (prefix : List Bool) (link : Option ℕ) (records : List Record) (there : IsAt ward.pages at (Live prefix link records)) where
      module _ (full : ward.cap ≤ length records) (short : length prefix < LIMIT) where
        abbrev low : ℕ
        low = low_of (prefix ++ true ∷ [])

        abbrev test : Page → Bool
        test page = nat_eq (low_bound page) low

        abbrev right : ℕ
        right = right_number ward.pages prefix

        abbrev first : List Page
        first = with_page at (left_half prefix right records) ward.pages

        abbrev new : List Page
        new = with_page right (right_half prefix link records) first

        within : at < length ward.pages
        within = slice_get_within ward.pages at (Live prefix link records) there

        first_length : length first ≡ length ward.pages
        first_length = put_length ward.pages at (left_half prefix right records) within

        found : IsFirst test ward.pages right
        found = is_first test ward.pages

        right_within : right ≤ length first
        right_within = elim found [
          | inl is ↦ omega (arith, first_length, slice_get_within ward.pages right is.0 is.1)
          | inr is ↦ omega (arith, first_length, is.0)
        ]

        apart : at ≡ right → ⊥
        apart same = elim found [
          | inl is ↦
              let both : Some (Live prefix link records) ≡ Some is.0 = sym there ∙ ap (slice_get ward.pages) same ∙ is.1 in
              let page : Live prefix link records ≡ is.0 = cc in
              let lows : low_of prefix ≡ low = ap low_bound page ∙ eqb-true (low_bound is.0) low is.2 in
              omega (arith, right_above prefix short, lows)
          | inr is ↦ omega (arith, is.0, within)
        ]

        place : IsRevived ward.pages low right new ⊎ IsFresh ward.pages low right new
        place = elim found [
          | inl is ↦
              let forwards = (ready ward.cap pseudo (own_prefix ward) ward.start ward.notices ward.table ward.pages prefix at sound.legal (link, records, there) short).forwards right (is.0, is.1, eqb-true (low_bound is.0) low is.2) in
              let inside : right < length first = omega (arith, first_length, slice_get_within ward.pages right is.0 is.1) in
              inl (forwards, put_length first right (right_half prefix link records) inside ∙ first_length)
          | inr is ↦ inr (record {
            none = λ other page there same. is.1 other page there (eq-eqb (low_bound page) low same);
            last = is.0;
            more = ap (λ n. length (with_page n (right_half prefix link records) first)) (is.0 ∙ sym first_length) ∙ put_last first (right_half prefix link records) ∙ ap (λ n. n + 1) first_length;
          })
        ]

        split : IsSplit ward.cap ward.pages at prefix right new
        split = record {
          link = link;
          records = records;
          there = there;
          full = full;
          short = short;
          left = put_else first right at (right_half prefix link records) right_within apart ∙ put_here ward.pages at (left_half prefix right records) (omega (arith, within));
          right_half = put_here first right (right_half prefix link records) right_within;
          place = place;
          others = λ number else elsewhere. put_else first right number (right_half prefix link records) right_within elsewhere ∙ put_else ward.pages at number (left_half prefix right records) (omega (arith, within)) else;
        }

        abbrev notice : Notice
        notice = next_notice ward.number ward.table prefix (Split right)

        changed : IsChanged ward.cap pseudo (own_prefix ward) ward.start ward.notices ward.table ward.pages notice new
        changed = law ward.cap pseudo (own_prefix ward) ward.start ward.notices ward.table ward.pages at prefix right new notice sound.legal split refl refl refl

        step : IsSplitStep ward at notice (ward_after ward (Ok notice) new)
        step = record { right = right; split = split; notice_is = refl; map = changed.map; places = changed.places; others = refl }

        split_comes : Comes
        split_comes =
            let is : split_of ward at ≡ Ok notice = at_page ward at (Live prefix link records) there ∙ rw (lt-leb (suc (length records)) ward.cap (omega arith), lt-leb LIMIT (length prefix) short) refl in
            comes (Ok notice) new is (rw there refl) step

      live_comes : Comes
      live_comes = elim (cases_lt (length records) ward.cap) [
        | inl less ↦ refused NotFull (at_page ward at (Live prefix link records) there ∙ rw (le-leb (suc (length records)) ward.cap less) refl) (Live prefix link records, there, less)
        | inr full ↦ elim (cases_lt (length prefix) LIMIT) as (λ _. Comes) [
          | inl short ↦ split_comes full short
          | inr long ↦
              let is : split_of ward at ≡ Err AtLimit = at_page ward at (Live prefix link records) there ∙ rw (lt-leb (suc (length records)) ward.cap (omega arith), le-leb LIMIT (length prefix) long) refl in
              refused AtLimit is (Live prefix link records, there, (full, long))
        ]
      ]

    page_comes : (found : Option Page) → slice_get ward.pages at ≡ found → Comes
    page_comes None is = let past = past_last ward.pages at is in refused NoPage (no_page ward at past) past
    page_comes (Some (Forward low target)) is = refused NotLive (at_page ward at (Forward low target) is) (Forward low target, is, λ live. live)
    page_comes (Some (Live prefix link records)) is = live_comes prefix link records is

    pub split_outcome : Comes
    split_outcome = page_comes (slice_get ward.pages at) refl
