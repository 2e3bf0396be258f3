-- A split as a relation gives what it gives as a function.
use Rattle.std.proofs.Common.{◌≡◌, ◌⊎◌, ℕ, suc, ◌≤◌, Bool, true, List, [], ◌∷◌, ◌++◌, length, slice_get, Ok, Err, inl, inr, refl, sym, ap, ◌∙◌, arith}
use Rattle.std.specs.Prelude.{nat_eq}
use Rattle.std.specs.Option.{option_map_or}
use Rattle.std.proofs.lemmas.Bool.{le-leb, lt-leb, eqb-true, eq-eqb}
use Rattle.std.proofs.lemmas.Option.{slice_get_within, slice_get_past}
use Rattle.exh_prefix.specs.declared.prefix.TheConstants.{LIMIT}
use Rattle.exh_prefix.specs.Prefix.{low_of}
use Rattle.exh_notice.specs.declared.entry.Kind.TheVariants.{Split}
use Rattle.exh_notice.specs.declared.notice.Notice.{Notice}
use Rattle.exh_page.specs.declared.page.Page.{Page}
use Rattle.exh_page.specs.declared.page.Page.TheVariants.{Live, Forward}
use Rattle.exh_page.specs.Page.{low_bound, with_records}
use Rattle.exh_legal.specs.BareLemmas.{bare_at, bare_low}
use Rattle.exh_legal.specs.Change.{IsSplit}
use Rattle.exh_legal.specs.ChangeNumbers.{next_notice}
use Rattle.exh_legal.specs.Pages.{IsAt, AreLinked, bare}
use Rattle.exh_ward.specs.PlacedPages.{with_page, ward_after}
use Rattle.exh_ward.specs.SplitFunction.{right_number, left_half, right_half, split_of_page, split_of, halved, ward_after_split}
use Rattle.exh_ward.specs.WardFault.{SplitRefusedAt, SplitRefused, IsStoreFault}
use Rattle.exh_ward.specs.SplitStep.{IsSplitStep}
use Rattle.exh_ward.specs.WardState.{WardState, own_prefix}
use Rattle.exh_ward.specs.declared.ward_fault.WardFault.{WardFault}
use Rattle.exh_ward.specs.declared.ward_fault.WardFault.TheVariants.{NoPage, NotLive, NotFull, AtLimit, Memory, Page as OutOfReach}
use Rattle.exh_ward.proofs.PlacedPages.{both_put, number_of_one, number_of_none}

-- ---- low bounds

-- legal pages of one low bound are one
pub one_of_low : (ward : List Bool) (pages : List Page) → AreLinked ward (bare pages) → (one other : ℕ) (page twin : Page) → IsAt pages one page → IsAt pages other twin → low_bound page ≡ low_bound twin → one ≡ other
one_of_low ward pages linked one other page twin is too same =
    linked.apart one other (with_records [] page) (with_records [] twin) (bare_at pages one page is) (bare_at pages other twin too) (bare_low page ∙ same ∙ sym (bare_low twin))

module _ {K : Type 0} (ward : WardState K) (at : ℕ) where
  -- ---- refusals

  pub at_page : (page : Page) → IsAt ward.pages at page → split_of ward at ≡ split_of_page ward page
  unfolding split_of
  at_page page there = rw there refl

  pub no_page : length ward.pages ≤ at → split_of ward at ≡ Err NoPage
  unfolding split_of
  no_page past = rw (slice_get_past ward.pages at past) refl

  refused_there : (page : Page) (fault : WardFault) → SplitRefusedAt ward.cap page fault → IsStoreFault fault ⊎ (split_of_page ward page ≡ Err fault)
  refused_there (Live prefix link records) NotLive is = absurd (is tt)
  refused_there (Forward low target) NotLive is = inr refl
  refused_there (Live prefix link records) NotFull is = inr (rw (le-leb (suc (length records)) ward.cap is) refl)
  refused_there (Forward low target) NotFull is = absurd is
  refused_there (Live prefix link records) AtLimit is = inr (rw (lt-leb (suc (length records)) ward.cap (omega (arith, is.0)), le-leb LIMIT (length prefix) is.1) refl)
  refused_there (Forward low target) AtLimit is = absurd is
  refused_there page Memory is = inl tt
  refused_there page fault is = absurd is

  at_refused : (fault : WardFault) → (page : Page) × IsAt ward.pages at page × SplitRefusedAt ward.cap page fault → IsStoreFault fault ⊎ (split_of ward at ≡ Err fault)
  at_refused fault is = elim (refused_there is.0 fault is.2) [
    | inl want ↦ inl want
    | inr same ↦ inr (at_page is.0 is.1 ∙ same)
  ]

  pub split_refused : (fault : WardFault) → SplitRefused ward.cap ward.pages at fault → IsStoreFault fault ⊎ (split_of ward at ≡ Err fault)
  split_refused NoPage is = inr (no_page is)
  split_refused Memory is = inl tt
  split_refused OutOfReach is = inl tt
  split_refused fault is = at_refused fault is

  -- ---- a split

  module _ (linked : AreLinked (own_prefix ward) (bare ward.pages)) (prefix : List Bool) (right : ℕ) (new : List Page) (split : IsSplit ward.cap ward.pages at prefix right new) where
    abbrev low : ℕ
    low = low_of (prefix ++ true ∷ [])

    right_is : right_number ward.pages prefix ≡ right
    right_is = elim split.place [
      | inl revived ↦ let there = revived.0.1 in
          number_of_one (λ page. nat_eq (low_bound page) low) ward.pages right (Forward low revived.0.0) there (eq-eqb low low refl) (λ other twin is passes.
          one_of_low (own_prefix ward) ward.pages linked other right twin (Forward low revived.0.0) is there (eqb-true (low_bound twin) low passes))
      | inr fresh ↦ number_of_none (λ page. nat_eq (low_bound page) low) ward.pages (λ number page is passes. fresh.none number page is (eqb-true (low_bound page) low passes)) ∙ sym fresh.last
    ]

    right_within : right ≤ length ward.pages
    right_within = elim split.place [
      | inl revived ↦ omega (arith, slice_get_within ward.pages right (Forward low revived.0.0) revived.0.1)
      | inr fresh ↦ omega (arith, fresh.last)
    ]

    made : new ≡ halved ward.pages at (Live prefix split.link split.records)
    made =
        both_put ward.pages new at right (left_half prefix right split.records) (right_half prefix split.link split.records) (slice_get_within ward.pages at _ split.there) right_within split.left split.right_half split.others
        ∙ ap (λ n. with_page n (right_half prefix split.link split.records) (with_page at (left_half prefix n split.records) ward.pages)) (sym right_is)

    noticed : split_of ward at ≡ Ok (next_notice ward.number ward.table prefix (Split right))
    noticed =
        at_page (Live prefix split.link split.records) split.there
        ∙ rw (lt-leb (suc (length split.records)) ward.cap (omega (arith, split.full)), lt-leb LIMIT (length prefix) split.short) refl
        ∙ ap (λ n. Ok (next_notice ward.number ward.table prefix (Split n))) right_is

  pub split_is : AreLinked (own_prefix ward) (bare ward.pages) → (notice : Notice) (new : WardState K) → IsSplitStep ward at notice new → (split_of ward at ≡ Ok notice) × (new ≡ ward_after_split ward at)
  unfolding ward_after_split
  split_is linked notice new step =
      let is : split_of ward at ≡ Ok notice = noticed linked notice.prefix step.right new.pages step.split ∙ ap Ok (sym step.notice_is) in
      let pages : new.pages ≡ option_map_or (halved ward.pages at) (slice_get ward.pages at) ward.pages = rw step.split.there (made linked notice.prefix step.right new.pages step.split) in
      (is, step.others ∙ ap (ward_after ward (Ok notice)) pages ∙ ap (λ result. ward_after ward result (option_map_or (halved ward.pages at) (slice_get ward.pages at) ward.pages)) (sym is))
