-- A walk over a ward by itself: its moments, and what it adds to the journal.
use Rattle.std.proofs.Common.{◌≡◌, inl, inr, ℕ, Bool, List, [], ◌∷◌, ◌++◌, Option, Some, None, Result, Ok, Err, refl, sym, ap, ◌∙◌, subst}
use Rattle.std.specs.Prelude.{All}
use Rattle.std.proofs.lemmas.List.{append-nil}
use Rattle.std.proofs.lemmas.List.Elements.{All-nil, All-cons, All-append}
use Rattle.exh_notice.specs.declared.notice.Notice.{Notice}
use Rattle.exh_calls.specs.declared.call.Call.{Call}
use Rattle.exh_calls.specs.declared.reply.Reply.{Reply}
use Rattle.exh_calls.specs.declared.journal_entry.JournalEntry.{JournalEntry}
use Rattle.exh_ward.specs.declared.hop.Hop.{Hop}
use Rattle.exh_ward.specs.declared.hop.Hop.TheVariants.{Done, Moved, MustSplit, Stray}
use Rattle.exh_ward.specs.declared.ward_fault.WardFault.{WardFault}
use Rattle.exh_ward.specs.WardState.{WardState, IsSoundWard}
use Rattle.exh_walk.specs.WardRun.{WardEvent, HopAt, SplitAt, MergeAt, WardStep, WardMoment, IsWardRun, answer_of}
use Rattle.exh_walk.specs.declared.ask_fault.AskFault.{AskFault}
use Rattle.exh_walk.specs.CallerWalk.{Due, HopDue, SplitDue, Over, IsRun, AreDue, IsWhatWasDue, IsEnd, IsWalked, after_fault, fault_at, due_after, due_from, hops_in}
use Rattle.exh_walk.specs.WardStep.{IsWardStep}
use Rattle.exh_walk.specs.WardWalk.{IsWardWalked, IsHopOrSplit, entries_of}

-- ---- what is still to come adds nothing

abbrev entries_due : ℕ → Call → Due → List JournalEntry
entries_due client call (HopDue page) = []
entries_due client call (SplitDue page) = []
entries_due client call (Over result) = entries_of client call result

none_after : (client page : ℕ) (call : Call) (fault : Option AskFault) → entries_due client call (after_fault page fault) ≡ []
none_after client page call None = refl
none_after client page call (Some fault) = refl

hop_entries : (pseudokey page client : ℕ) (call : Call) (result : Result Hop WardFault) → answer_of (HopAt page client call result) ≡ entries_due client call (due_after pseudokey (HopAt page client call result))
hop_entries pseudokey page client call (Ok (Done reply)) = refl
hop_entries pseudokey page client call (Ok (Moved next)) = refl
hop_entries pseudokey page client call (Ok MustSplit) = refl
hop_entries pseudokey page client call (Ok Stray) = refl
hop_entries pseudokey page client call (Err fault) = sym (none_after client page call (fault_at fault))

split_entries : (pseudokey page client : ℕ) (call : Call) (result : Result Notice WardFault) → answer_of (SplitAt page result) ≡ entries_due client call (due_after pseudokey (SplitAt page result))
split_entries pseudokey page client call (Ok notice) = refl
split_entries pseudokey page client call (Err fault) = sym (none_after client page call (fault_at fault))

last_entries : (pseudokey client : ℕ) (call : Call) (due : Due) (event : WardEvent) → IsWhatWasDue client call due event → (entries_due client call due ≡ []) × (answer_of event ≡ entries_due client call (due_after pseudokey event))
last_entries pseudokey client call (HopDue page) event was = (refl, subst (λ e. answer_of e ≡ entries_due client call (due_after pseudokey e)) (sym was.1) (hop_entries pseudokey page client call was.0))
last_entries pseudokey client call (SplitDue page) event was = (refl, subst (λ e. answer_of e ≡ entries_due client call (due_after pseudokey e)) (sym was.1) (split_entries pseudokey page client call was.0))
last_entries pseudokey client call (Over result) event was = absurd was

end_entries : (may : ℕ → Bool → Type 0) (client : ℕ) (call : Call) (due : Due) (turns : ℕ) (result : Result Reply AskFault) → IsEnd may due turns result → entries_due client call due ≡ entries_of client call result
end_entries may client call (Over over) turns result end = ap (entries_of client call) (sym end)
end_entries may client call (HopDue page) turns result end = ap (entries_of client call) (sym end.0)
end_entries may client call (SplitDue page) turns result end = absurd end

was_hop_or_split : (client : ℕ) (call : Call) (due : Due) (event : WardEvent) → IsWhatWasDue client call due event → IsHopOrSplit client call event
was_hop_or_split client call (HopDue page) event was = inl (page, was.0, was.1)
was_hop_or_split client call (SplitDue page) event was = inr (page, was.0, was.1)
was_hop_or_split client call (Over result) event was = absurd was

module _ {K : Type 0} (pseudokey_of : K → List ℕ → ℕ) where
  -- ---- the moments

  run_then : (start between end : WardState K) (moments : List (WardMoment K)) (event : WardEvent) → IsWardRun pseudokey_of start moments between → WardStep pseudokey_of between event end
      → IsWardRun pseudokey_of start (moments ++ record { before = between; event = event; after = end } ∷ []) end
  run_then start between end [] event run step = (run, subst (λ ward. WardStep pseudokey_of ward event end) run step, refl)
  run_then start between end (moment ∷ moments) event run step = (run.0, run.1, run_then moment.after between end moments event run.2 step)

  record HasMoments (old : WardState K) (client : ℕ) (call : Call) (new : WardState K) : Type 0 where
    moments : List (WardMoment K)
    run : IsWardRun pseudokey_of old moments new
    steps : All (λ (moment : WardMoment K). IsHopOrSplit client call moment.event) moments

  moments_of : (old new : WardState K) (at client : ℕ) (call : Call) (pseudokey : ℕ) (events : List WardEvent) → IsRun (IsWardStep pseudokey_of) old events new → AreDue at client call pseudokey events → HasMoments old client call new
  moments_of old new at client call pseudokey [] run due =
      let P : WardMoment K → Type 0 = λ moment. IsHopOrSplit client call moment.event in
      record { moments = []; run = run; steps = All-nil P }
  moments_of old new at client call pseudokey (event ∷ earlier) run due =
      let P : WardMoment K → Type 0 = λ moment. IsHopOrSplit client call moment.event in
      let before = moments_of old run.0 at client call pseudokey earlier run.1 due.0 in
      let last : WardMoment K = record { before = run.0; event = event; after = new } in
      record {
        moments = before.moments ++ last ∷ [];
        run = run_then old run.0 new before.moments event before.run run.2.step;
        steps = All-append P before.moments (last ∷ []) before.steps (All-cons P last [] (was_hop_or_split client call (due_from pseudokey at earlier) event due.1) (All-nil P));
      }

  -- ---- the journal

  step_journal : (old new : WardState K) (event : WardEvent) → WardStep pseudokey_of old event new → new.journal ≡ old.journal ++ answer_of event
  step_journal old new (HopAt at client call (Ok (Done reply))) step = step.1.journal
  step_journal old new (HopAt at client call (Ok (Moved next))) step = ap (λ (w : WardState K). w.journal) step.1 ∙ sym (append-nil old.journal)
  step_journal old new (HopAt at client call (Ok MustSplit)) step = ap (λ (w : WardState K). w.journal) step.1 ∙ sym (append-nil old.journal)
  step_journal old new (HopAt at client call (Ok Stray)) step = ap (λ (w : WardState K). w.journal) step.1 ∙ sym (append-nil old.journal)
  step_journal old new (HopAt at client call (Err fault)) step = ap (λ (w : WardState K). w.journal) step ∙ sym (append-nil old.journal)
  step_journal old new (SplitAt at (Ok notice)) step = ap (λ (w : WardState K). w.journal) step.others ∙ sym (append-nil old.journal)
  step_journal old new (SplitAt at (Err fault)) step = ap (λ (w : WardState K). w.journal) step ∙ sym (append-nil old.journal)
  step_journal old new (MergeAt at (Ok notice)) step = ap (λ (w : WardState K). w.journal) step.others ∙ sym (append-nil old.journal)
  step_journal old new (MergeAt at (Err fault)) step = ap (λ (w : WardState K). w.journal) step ∙ sym (append-nil old.journal)

  journal_so_far : (old new : WardState K) (at client : ℕ) (call : Call) (pseudokey : ℕ) (events : List WardEvent) → IsRun (IsWardStep pseudokey_of) old events new → AreDue at client call pseudokey events → new.journal ≡ old.journal ++ entries_due client call (due_from pseudokey at events)
  journal_so_far old new at client call pseudokey [] run due = ap (λ (w : WardState K). w.journal) run ∙ sym (append-nil old.journal)
  journal_so_far old new at client call pseudokey (event ∷ earlier) run due =
      let before = journal_so_far old run.0 at client call pseudokey earlier run.1 due.0 in
      let last = last_entries pseudokey client call (due_from pseudokey at earlier) event due.1 in
      let nothing_yet = before ∙ ap (λ entries. old.journal ++ entries) last.0 ∙ append-nil old.journal in
      step_journal run.0 new event run.2.step ∙ ap (λ journal. journal ++ answer_of event) nothing_yet ∙ ap (λ entries. old.journal ++ entries) last.1

  sound_after : (old new : WardState K) (events : List WardEvent) → IsSoundWard pseudokey_of old → IsRun (IsWardStep pseudokey_of) old events new → IsSoundWard pseudokey_of new
  sound_after old new [] sound run = subst (IsSoundWard pseudokey_of) (sym run) sound
  sound_after old new (event ∷ earlier) sound run = run.2.sound

  pub ward_walked : (may : ℕ → Bool → Type 0) (old new : WardState K) (at client : ℕ) (call : Call) (pseudokey : ℕ) (result : Result Reply AskFault) → IsSoundWard pseudokey_of old
      → IsWalked (IsWardStep pseudokey_of) may old at client call pseudokey result new → IsWardWalked pseudokey_of old client call result new
  ward_walked may old new at client call pseudokey result sound walked =
      let on = moments_of old new at client call pseudokey walked.events walked.way.run walked.way.due in
      record {
        moments = on.moments;
        run = on.run;
        steps = on.steps;
        journal = journal_so_far old new at client call pseudokey walked.events walked.way.run walked.way.due ∙ ap (λ entries. old.journal ++ entries) (end_entries may client call (due_from pseudokey at walked.events) (hops_in walked.events) result walked.end);
        sound = sound_after old new walked.events sound walked.way.run;
      }
