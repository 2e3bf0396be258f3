-- Turns put together into a walk.
use Rattle.std.proofs.Common.{◌≡◌, inl, inr, ℕ, suc, ◌+◌, Bool, List, [], ◌∷◌, ◌++◌, Option, Some, Result, Ok, Err, refl, sym, ap, ◌∙◌, subst, arith}
use Rattle.std.proofs.lemmas.Bool.{cases_lt}
use Rattle.exh_calls.specs.declared.call.Call.{Call}
use Rattle.exh_calls.specs.declared.reply.Reply.{Reply}
use Rattle.exh_ward.specs.declared.hop.Hop.{Hop}
use Rattle.exh_ward.specs.declared.hop.Hop.TheVariants.{MustSplit}
use Rattle.exh_ward.specs.declared.ward_fault.WardFault.{WardFault}
use Rattle.exh_walk.specs.WardRun.{WardEvent, HopAt, SplitAt, MergeAt}
use Rattle.exh_walk.specs.declared.ask_fault.AskFault.{AskFault}
use Rattle.exh_walk.specs.declared.ask_fault.AskFault.TheVariants.{Held}
use Rattle.exh_walk.specs.declared.walk.Turn.{Turn}
use Rattle.exh_walk.specs.declared.walk.Turn.TheVariants.{Answered, At}
use Rattle.exh_walk.specs.Turn.{IsNext, IsTurn, IsSplitTurn}
use Rattle.exh_walk.specs.CallerWalk.{Due, HopDue, SplitDue, Over, after_fault, due_after, due_from, IsRun, IsWhatWasDue, AreDue, hops_in, MaySayNo, MaySayYes, MayPass, IsEnd, IsWay, IsWalked}

-- ---- what a turn came to

pub next_at : (due : Due) (page : ℕ) → IsNext due (Ok (At page)) → due ≡ HopDue page
next_at (HopDue to) page next = let same : to ≡ page = cc in ap HopDue same
next_at (SplitDue to) page next = absurd next
next_at (Over (Ok reply)) page next = absurd cc
next_at (Over (Err fault)) page next = absurd cc

pub next_answered : (due : Due) (reply : Reply) → IsNext due (Ok (Answered reply)) → due ≡ Over (Ok reply)
next_answered (HopDue to) reply next = absurd cc
next_answered (SplitDue to) reply next = absurd next
next_answered (Over (Ok other)) reply next = let same : other ≡ reply = cc in ap (λ r. Over (Ok r)) same
next_answered (Over (Err fault)) reply next = absurd cc

pub next_refused : (due : Due) (fault : AskFault) → IsNext due (Err fault) → due ≡ Over (Err fault)
next_refused (HopDue to) fault next = absurd cc
next_refused (SplitDue to) fault next = absurd next
next_refused (Over (Ok other)) fault next = absurd cc
next_refused (Over (Err other)) fault next = let same : other ≡ fault = cc in ap (λ f. Over (Err f)) same

pub next_of_fault : (page : ℕ) (known : Option AskFault) (fault : AskFault) → known ≡ Some fault → IsNext (after_fault page known) (Err fault)
next_of_fault page known fault is = subst (λ k. IsNext (after_fault page k) (Err fault)) (sym is) refl

module _ {S : Type 0} (step : S → WardEvent → S → Type 0) where
  pub hop_turn : (old new : S) (page client : ℕ) (call : Call) (pseudokey : ℕ) (hop : Result Hop WardFault) (result : Result Turn AskFault) → step old (HopAt page client call hop) new
      → IsNext (due_after pseudokey (HopAt page client call hop)) result → IsTurn step old page client call pseudokey result new
  hop_turn old new page client call pseudokey hop result is next = record {
    events = HopAt page client call hop ∷ [];
    run = (old, refl, is);
    due = (tt, (hop, refl));
    hops = refl;
    next = next;
  }

  pub hop_turn_as : (old new : S) (page client : ℕ) (call : Call) (pseudokey : ℕ) (hop shown : Hop) (result : Result Turn AskFault) → hop ≡ shown → step old (HopAt page client call (Ok hop)) new
      → IsNext (due_after pseudokey (HopAt page client call (Ok shown))) result → IsTurn step old page client call pseudokey result new
  hop_turn_as old new page client call pseudokey hop shown result same is next =
      hop_turn old new page client call pseudokey (Ok shown) result (subst (λ h. step old (HopAt page client call (Ok h)) new) same is) next

  pub split_turn : (old between new : S) (page client : ℕ) (call : Call) (pseudokey : ℕ) (hop : Hop) (result : Result Turn AskFault) → hop ≡ MustSplit → step old (HopAt page client call (Ok hop)) between
      → IsSplitTurn step between page pseudokey result new → IsTurn step old page client call pseudokey result new
  split_turn old between new page client call pseudokey hop result same is split = record {
    events = SplitAt page split.0 ∷ HopAt page client call (Ok MustSplit) ∷ [];
    run = (between, (old, refl, subst (λ h. step old (HopAt page client call (Ok h)) between) same is), split.1);
    due = ((tt, (Ok MustSplit, refl)), (split.0, refl));
    hops = refl;
    next = split.2;
  }

  -- ---- one after the other

  runs_on : (old between new : S) (events more : List WardEvent) → IsRun step old events between → IsRun step between more new → IsRun step old (more ++ events) new
  runs_on old between new events [] run on = subst (IsRun step old events) (sym on) run
  runs_on old between new events (event ∷ more) run on = (on.0, runs_on old between on.0 events more run on.1, on.2)

hops_on : (events more : List WardEvent) → hops_in (more ++ events) ≡ hops_in more + hops_in events
hops_on events [] = omega arith
hops_on events (HopAt page client call result ∷ more) = omega (arith, hops_on events more)
hops_on events (SplitAt page result ∷ more) = hops_on events more
hops_on events (MergeAt page result ∷ more) = hops_on events more

pub due_on : (pseudokey at page : ℕ) (events more : List WardEvent) → due_from pseudokey at events ≡ HopDue page → due_from pseudokey at (more ++ events) ≡ due_from pseudokey page more
due_on pseudokey at page events [] stands = stands
due_on pseudokey at page events (event ∷ more) stands = refl

are_due_on : (at page client : ℕ) (call : Call) (pseudokey : ℕ) (events more : List WardEvent) → due_from pseudokey at events ≡ HopDue page → AreDue at client call pseudokey events → AreDue page client call pseudokey more
    → AreDue at client call pseudokey (more ++ events)
are_due_on at page client call pseudokey events [] stands due on = due
are_due_on at page client call pseudokey events (event ∷ more) stands due on =
    (are_due_on at page client call pseudokey events more stands due on.0, subst (λ d. IsWhatWasDue client call d event) (sym (due_on pseudokey at page events more stands)) on.1)

pass_on : (may : ℕ → Bool → Type 0) (turns : ℕ) → MayPass may turns → MaySayYes may (suc turns) → MayPass may (suc turns)
pass_on may turns passed agreed turn low high = elim (cases_lt turn (suc turns)) [
  | inl before ↦ passed turn low (omega (arith, before))
  | inr last ↦ let same : turn ≡ suc turns = omega (arith, last, high) in subst (MaySayYes may) (sym same) agreed
]

module _ {S : Type 0} (step : S → WardEvent → S → Type 0) (may : ℕ → Bool → Type 0) where
  -- a walk so far, which stands at a page after so many turns
  pub record Stands (old : S) (at client : ℕ) (call : Call) (pseudokey page turns : ℕ) (new : S) : Type 0 where
    pub events : List WardEvent
    pub way : IsWay step may old at client call pseudokey events new
    pub stands : due_from pseudokey at events ≡ HopDue page
    pub hops : hops_in events ≡ turns

  pub begins : (old : S) (at client : ℕ) (call : Call) (pseudokey : ℕ) → Stands old at client call pseudokey at 0 old
  begins old at client call pseudokey = record {
    events = [];
    way = record { run = refl; due = tt; passed = λ turn low high. absurd (omega (arith, low, high)) };
    stands = refl;
    hops = refl;
  }

  module _ (old between new : S) (at client : ℕ) (call : Call) (pseudokey page turns : ℕ) (result : Result Turn AskFault) (so_far : Stands old at client call pseudokey page turns between) (later : ℕ) (later_is : later ≡ suc turns) (agreed : MaySayYes may later) (turn : IsTurn step between page client call pseudokey result new) where
    more_hops : hops_in (turn.events ++ so_far.events) ≡ suc turns
    more_hops = omega (arith, hops_on so_far.events turn.events, turn.hops, so_far.hops)

    on : IsWay step may old at client call pseudokey (turn.events ++ so_far.events) new
    on = record {
      run = runs_on step old between new so_far.events turn.events so_far.way.run turn.run;
      due = are_due_on at page client call pseudokey so_far.events turn.events so_far.stands so_far.way.due turn.due;
      passed = subst (MayPass may) (sym more_hops) (pass_on may turns (subst (MayPass may) so_far.hops so_far.way.passed) (subst (MaySayYes may) later_is agreed));
    }

    due_then : due_from pseudokey at (turn.events ++ so_far.events) ≡ due_from pseudokey page turn.events
    due_then = due_on pseudokey at page so_far.events turn.events so_far.stands

    pub goes_on : (next : ℕ) → result ≡ Ok (At next) → Stands old at client call pseudokey next later new
    goes_on next is = record {
      events = turn.events ++ so_far.events;
      way = on;
      stands = due_then ∙ next_at (due_from pseudokey page turn.events) next (subst (IsNext (due_from pseudokey page turn.events)) is turn.next);
      hops = more_hops ∙ sym later_is;
    }

    over : (end : Result Reply AskFault) → due_from pseudokey page turn.events ≡ Over end → IsWalked step may old at client call pseudokey end new
    over end is = record {
      events = turn.events ++ so_far.events;
      way = on;
      end = let P : Due → Type 0 = λ due. IsEnd may due (hops_in (turn.events ++ so_far.events)) end in subst P (sym (due_then ∙ is)) refl;
    }

    pub answered : (reply : Reply) → result ≡ Ok (Answered reply) → IsWalked step may old at client call pseudokey (Ok reply) new
    answered reply is = over (Ok reply) (next_answered (due_from pseudokey page turn.events) reply (subst (IsNext (due_from pseudokey page turn.events)) is turn.next))

    pub refused : (fault : AskFault) → result ≡ Err fault → IsWalked step may old at client call pseudokey (Err fault) new
    refused fault is = over (Err fault) (next_refused (due_from pseudokey page turn.events) fault (subst (IsNext (due_from pseudokey page turn.events)) is turn.next))

  pub held : (old new : S) (at client : ℕ) (call : Call) (pseudokey page turns : ℕ) → Stands old at client call pseudokey page turns new → MaySayNo may (suc turns) → IsWalked step may old at client call pseudokey (Err Held) new
  held old new at client call pseudokey page turns so_far refusal = record {
    events = so_far.events;
    way = so_far.way;
    end = let P : Due → ℕ → Type 0 = λ due hops. IsEnd may due hops (Err Held) in subst (λ due. P due (hops_in so_far.events)) (sym so_far.stands) (refl, subst (λ n. MaySayNo may (suc n)) (sym so_far.hops) refusal);
  }
