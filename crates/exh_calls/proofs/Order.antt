-- Where the entries of a diary stand in the journals, and in which order.
use Rattle.std.proofs.Common.{◌≡◌, ℕ, suc, List, ◌∷◌, ◌++◌, get_or, take, drop, refl, sym, ap, ◌∙◌, subst, arith}
use Rattle.std.specs.Prelude.{All, Contains}
use Rattle.std.proofs.lemmas.Bool.{eq-eqb}
use Rattle.std.proofs.lemmas.List.Elements.{Contains-append_right}
use Rattle.std.proofs.Math.Seq.{split_at}
use Rattle.exh_calls.specs.Call.{key_of}
use Rattle.exh_calls.specs.declared.journal_entry.JournalEntry.{JournalEntry}
use Rattle.exh_calls.specs.declared.diary_entry.DiaryEntry.{DiaryEntry}
use Rattle.exh_calls.specs.Diary.{DiaryState}
use Rattle.exh_calls.specs.SettledLaws.{IsWrittenDown, StandsBefore, journal_of, with_client}
use Rattle.exh_calls.specs.Settled.{IsSameIn, in_ward}
use Rattle.exh_calls.proofs.Splits.{in_ward-own, split_caller}
use Rattle.exh_calls.proofs.Wards.{splits}

stands_here : (front back : List JournalEntry) (entry : JournalEntry) → Contains (front ++ entry ∷ back) entry
stands_here front back entry = Contains-append_right front (entry ∷ back) entry (0, omega arith, refl)

module _ (ward_of : List ℕ → ℕ) (journals : List (List JournalEntry)) (diary : DiaryState) (same : (number : ℕ) → IsSameIn ward_of journals diary number) where
  each_stands : All (λ entry. Contains (journal_of ward_of journals entry) (with_client diary.client entry)) diary.entries
  each_stands k d less =
      let entry = get_or diary.entries k d in
      let split = splits ward_of journals diary (take k diary.entries) (drop (suc k) diary.entries) entry (same (ward_of (key_of entry.call))) (split_at diary.entries k d less) in
      subst (λ journal. Contains journal (with_client diary.client entry)) (sym split.whole) (stands_here split.front split.back (with_client diary.client entry))

  keeps_order : (one other : DiaryEntry) → ward_of (key_of one.call) ≡ ward_of (key_of other.call) → StandsBefore diary.entries one other
      → StandsBefore (journal_of ward_of journals one) (with_client diary.client one) (with_client diary.client other)
  keeps_order one other ward (front, between, back, whole) =
      let number = ward_of (key_of one.call) in
      let first = splits ward_of journals diary front (between ++ other ∷ back) one (same number) whole in
      let second = split_caller diary.client first.back (in_ward ward_of number between) (in_ward ward_of number back) other
      (first.behind ∙ in_ward-own ward_of number between back other (eq-eqb (ward_of (key_of other.call)) number (sym ward))) in
      (first.front, second.front, second.back, first.whole ∙ ap (λ rest. first.front ++ with_client diary.client one ∷ rest) second.whole)

  pub written_down : IsWrittenDown ward_of journals diary
  written_down = record { stands = each_stands; order = keeps_order }
