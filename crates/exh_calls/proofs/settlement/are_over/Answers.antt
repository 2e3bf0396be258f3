use Rattle.std.proofs.Common.{◌≡◌, ◌+◌, ◌-◌, ◌≤◌, ℕ, List, [], length, get_or, inl, inr, Option, Some, None, is_some, true, false, refl, sym, ap, ◌∙◌, subst, arith}
use Rattle.std.specs.Prelude.{slice_get}
use Rattle.std.specs.Iterator.{YieldsFirst}
use Rattle.std.proofs.lemmas.Bool.{cases_lt, false≢true}
use Rattle.std.proofs.lemmas.List.{get_or_past}
use Rattle.std.proofs.lemmas.Option.{get_or_from_slice_get}
use Rattle.exh_calls.specs.declared.journal_entry.JournalEntry.{JournalEntry}
use Rattle.exh_calls.specs.declared.diary_entry.DiaryEntry.{DiaryEntry}
use Rattle.exh_calls.specs.Beside.{left_at, of_caller_from}
use Rattle.exh_calls.specs.Settled.{journal_at}
use Rattle.exh_calls.proofs.Beside.{none_past}
use Rattle.exh_calls.proofs.Splits.{cons_not_nil}
use Rattle.exh_calls.proofs.settlement.are_over.Goals as goal

module _ (journals : List (List JournalEntry)) (client first : ℕ) (places : List ℕ) where
  here : (number : ℕ) (journal : List JournalEntry) → first ≤ number → slice_get journals number ≡ Some journal
      → left_at journals client first places (number - first) ≡ of_caller_from client journal (get_or places (number - first) 0)
  here number journal from there =
      let place : first + (number - first) ≡ number = omega arith in
      ap (λ one. of_caller_from client one (get_or places (number - first) 0)) (ap (journal_at journals) place ∙ get_or_from_slice_get journals number journal [] there)

  -- where one entry more came, something was left
  one_left : (journal : List JournalEntry) (place slot : ℕ) (next : Option DiaryEntry) → left_at journals client first places slot ≡ of_caller_from client journal (get_or places slot 0)
      → YieldsFirst (of_caller_from client journal) (get_or places slot 0) next place → is_some next ≡ true → left_at journals client first places slot ≡ [] → ⊥
  one_left journal place slot None is yields some none = false≢true some
  one_left journal place slot (Some entry) is yields some none = cons_not_nil entry (of_caller_from client journal place) (sym yields ∙ sym is ∙ none)

  -- and where none came, nothing was
  none_left : (journal : List JournalEntry) (place slot : ℕ) (next : Option DiaryEntry) → left_at journals client first places slot ≡ of_caller_from client journal (get_or places slot 0)
      → YieldsFirst (of_caller_from client journal) (get_or places slot 0) next place → is_some next ≡ false → left_at journals client first places slot ≡ []
  none_left journal place slot None is yields none = is ∙ yields.0
  none_left journal place slot (Some entry) is yields none = absurd (false≢true (sym none))

pub returns-then-is_some : goal.returns-then-is_some
returns-then-is_some g c =
    let journals = g.J.Journals.journals_of c.args.journals.now in
    let first = c.args.first in
    let number = c.loop-number.number in
    let journal = c.journal.result.now.entries in
    let places = c.args.places.now in
    let left = here journals c.args.client first places number journal c.loop-number.invariant.from c.journal.ensures in (
      λ is. absurd (false≢true is),
      λ over. absurd (one_left journals c.args.client first places journal c.next_of.new.place (number - first) c.next_of.result left c.next_of.ensures (sym c.is_some.ensures ∙ c.if-is_some.true) (over (number - first) (omega arith))),
    )

pub loop-number-preserved : goal.loop-number-preserved
loop-number-preserved g c =
    let journals = g.J.Journals.journals_of c.args.journals.now in
    let first = c.args.first in
    let number = c.loop-number.number in
    let journal = c.journal.result.now.entries in
    let places = c.args.places.now in
    let left = here journals c.args.client first places number journal c.loop-number.invariant.from c.journal.ensures in
    let none = none_left journals c.args.client first places journal c.next_of.new.place (number - first) c.next_of.result left c.next_of.ensures (sym c.is_some.ensures ∙ c.if-is_some.false) in
    record {
      from = omega arith;
      over = λ slot below. elim (cases_lt (first + slot) number) [
        | inl before ↦ c.loop-number.invariant.over slot before
        | inr not_before ↦ subst (λ n. left_at journals c.args.client first places n ≡ []) (omega (arith, below, not_before)) none
      ];
    }

pub returns : goal.returns
returns g c =
    let journals = g.J.Journals.journals_of c.args.journals.now in
    let first = c.args.first in
    let places = c.args.places.now in (
      λ _ slot less. elim (cases_lt (first + slot) c.loop-number.number) [
        | inl before ↦ c.loop-number.invariant.over slot before
        | inr not_before ↦
            let beyond : length journals ≤ first + slot = omega (arith, less, not_before, c.count.ensures, c.saturating_add.ensures, c.min-end.ensures, c.loop-number-test.false, c.count.type_inv) in
            ap (λ one. of_caller_from c.args.client one (get_or places slot 0)) (get_or_past journals (first + slot) [] beyond) ∙ none_past c.args.client [] (get_or places slot 0) (omega arith)
      ],
      λ _. refl,
    )
