-- The units that a walk adds: one where it is answered, else none.
use Rattle.std.proofs.Common.{◌≡◌, ℕ, ◌+◌, List, [], ◌∷◌, length, Result, Ok, Err, Option, Some, None, Bool, refl, sym, ap, ◌∙◌, subst, arith}
use Rattle.std.specs.Result.{IsErr, IsErrAnd}
use Rattle.exh_notice.specs.declared.notice.Notice.{Notice}
use Rattle.exh_calls.specs.declared.call.Call.{Call}
use Rattle.exh_calls.specs.declared.reply.Reply.{Reply}
use Rattle.exh_ward.specs.declared.hop.Hop.{Hop}
use Rattle.exh_ward.specs.declared.hop.Hop.TheVariants.{Done, Moved, MustSplit, Stray}
use Rattle.exh_ward.specs.declared.ward_fault.WardFault.{WardFault}
use Rattle.exh_walk.specs.WardRun.{WardEvent, HopAt, SplitAt, answer_of}
use Rattle.exh_walk.specs.declared.ask_fault.AskFault.{AskFault}
use Rattle.exh_walk.specs.CallerWalk.{Due, HopDue, SplitDue, Over, IsRun, AreDue, IsWhatWasDue, IsEnd, IsWalked, after_fault, fault_at, due_after, due_from, hops_in}
use Rattle.exh_live.specs.Units.{units_of}

-- the answers among events
abbrev answers_among : List WardEvent → ℕ
answers_among [] = 0
answers_among (event ∷ earlier) = answers_among earlier + length (answer_of event)

module _ {S : Type 0} (step : S → WardEvent → S → Type 0) (amount : S → ℕ) (adds : (old new : S) (event : WardEvent) → step old event new → amount new ≡ amount old + length (answer_of event)) where
  added : (old new : S) (events : List WardEvent) → IsRun step old events new → amount new ≡ amount old + answers_among events
  added old new [] run = ap amount run ∙ omega arith
  added old new (event ∷ earlier) run =
      let before = added old run.0 earlier run.1 in
      let last = adds run.0 new event run.2 in
      omega (arith, before, last)

-- one where a call is answered, with nothing to come
abbrev units_due : Due → ℕ
units_due (HopDue page) = 0
units_due (SplitDue page) = 0
units_due (Over result) = units_of result

no_units_after : (page : ℕ) (fault : Option AskFault) → units_due (after_fault page fault) ≡ 0
no_units_after page None = refl
no_units_after page (Some fault) = refl

hop_units : (pseudokey page client : ℕ) (call : Call) (result : Result Hop WardFault) → length (answer_of (HopAt page client call result)) ≡ units_due (due_after pseudokey (HopAt page client call result))
hop_units pseudokey page client call (Ok (Done reply)) = refl
hop_units pseudokey page client call (Ok (Moved next)) = refl
hop_units pseudokey page client call (Ok MustSplit) = refl
hop_units pseudokey page client call (Ok Stray) = refl
hop_units pseudokey page client call (Err fault) = sym (no_units_after page (fault_at fault))

split_units : (pseudokey page : ℕ) (result : Result Notice WardFault) → length (answer_of (SplitAt page result)) ≡ units_due (due_after pseudokey (SplitAt page result))
split_units pseudokey page (Ok notice) = refl
split_units pseudokey page (Err fault) = sym (no_units_after page (fault_at fault))

last_units : (pseudokey client : ℕ) (call : Call) (due : Due) (event : WardEvent) → IsWhatWasDue client call due event → (units_due due ≡ 0) × (length (answer_of event) ≡ units_due (due_after pseudokey event))
last_units pseudokey client call (HopDue page) event was = (refl, subst (λ e. length (answer_of e) ≡ units_due (due_after pseudokey e)) (sym was.1) (hop_units pseudokey page client call was.0))
last_units pseudokey client call (SplitDue page) event was = (refl, subst (λ e. length (answer_of e) ≡ units_due (due_after pseudokey e)) (sym was.1) (split_units pseudokey page was.0))
last_units pseudokey client call (Over result) event was = absurd was

units_so_far : (at client : ℕ) (call : Call) (pseudokey : ℕ) (events : List WardEvent) → AreDue at client call pseudokey events → answers_among events ≡ units_due (due_from pseudokey at events)
units_so_far at client call pseudokey [] due = refl
units_so_far at client call pseudokey (event ∷ earlier) due =
    let before = units_so_far at client call pseudokey earlier due.0 in
    let last = last_units pseudokey client call (due_from pseudokey at earlier) event due.1 in
    omega (arith, before, last.0, last.1)

end_units : (may : ℕ → Bool → Type 0) (due : Due) (turns : ℕ) (result : Result Reply AskFault) → IsEnd may due turns result → units_due due ≡ units_of result
end_units may (Over over) turns result end = ap units_of (sym end)
end_units may (HopDue page) turns result end = ap units_of (sym end.0)
end_units may (SplitDue page) turns result end = absurd end

-- a refusal that is handed on
pub of_fault : (P : Result Reply AskFault → Type 0) (result : Result Reply AskFault) (fault : AskFault) → IsErr result × IsErrAnd result (λ other. other ≡ fault) → P (Err fault) → P result
of_fault P (Ok reply) fault is has = absurd is.1
of_fault P (Err other) fault is has = subst (λ one. P (Err one)) (sym is.1) has

-- what each step keeps is known of a run of them
known_run : {S : Type 0} (step : S → WardEvent → S → Type 0) (Known : WardEvent → Type 0) → ((old new : S) (event : WardEvent) → step old event new → Known event)
    → (old new : S) (events : List WardEvent) → IsRun step old events new → IsRun {S = Unit {0}} (λ before event after. Known event) tt events tt
known_run step Known is old new [] run = refl
known_run step Known is old new (event ∷ earlier) run = (tt, known_run step Known is old run.0 earlier run.1, is run.0 new event run.2)

pub known_walk : {S : Type 0} (step : S → WardEvent → S → Type 0) (Known : WardEvent → Type 0) → ((old new : S) (event : WardEvent) → step old event new → Known event)
    → (may : ℕ → Bool → Type 0) (old new : S) (at client : ℕ) (call : Call) (pseudokey : ℕ) (result : Result Reply AskFault)
    → IsWalked step may old at client call pseudokey result new → IsWalked {S = Unit {0}} (λ before event after. Known event) may tt at client call pseudokey result tt
known_walk step Known is may old new at client call pseudokey result walked = record {
  events = walked.events;
  way = record { run = known_run step Known is old new walked.events walked.way.run; due = walked.way.due; passed = walked.way.passed };
  end = walked.end;
}

-- the amount grows by what the walk adds
pub walk_adds : {S : Type 0} (step : S → WardEvent → S → Type 0) (amount : S → ℕ) → ((old new : S) (event : WardEvent) → step old event new → amount new ≡ amount old + length (answer_of event))
    → (may : ℕ → Bool → Type 0) (old new : S) (at client : ℕ) (call : Call) (pseudokey : ℕ) (result : Result Reply AskFault)
    → IsWalked step may old at client call pseudokey result new → amount new ≡ amount old + units_of result
walk_adds step amount adds may old new at client call pseudokey result walked =
    let all = added step amount adds old new walked.events walked.way.run in
    let far = units_so_far at client call pseudokey walked.events walked.way.due in
    let end = end_units may (due_from pseudokey at walked.events) (hops_in walked.events) result walked.end in
    omega (arith, all, far, end)
