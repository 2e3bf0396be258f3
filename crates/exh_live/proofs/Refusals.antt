-- Refusals of wards behind their locks, and of the walks that end with one.
use Rattle.std.proofs.Common.{◌≡◌, ℕ, Bool, List, [], ◌∷◌, Result, Ok, Err, IfErr, refl, sym, ap, ◌∙◌}
use Rattle.std.specs.Prelude.{OnErr}
use Rattle.exh_calls.specs.declared.call.Call.{Call}
use Rattle.exh_calls.specs.declared.reply.Reply.{Reply}
use Rattle.exh_ward.specs.WardFault.{CountsFailures}
use Rattle.exh_ward.specs.WardState.{WardState, IsSoundWard, IsUnchanged}
use Rattle.exh_notice.specs.declared.notice.Notice.{Notice}
use Rattle.exh_ward.specs.declared.hop.Hop.{Hop}
use Rattle.exh_ward.specs.declared.hop.Hop.TheVariants.{Done, Moved, MustSplit, Stray}
use Rattle.exh_ward.specs.declared.ward_fault.WardFault.{WardFault}
use Rattle.exh_ward.specs.declared.ward_fault.WardFault.TheVariants.{NoPage, NotLive, NotFull, AtLimit, NoBuddy, BuddySplit, TooMany, Worn, Memory, Page}
use Rattle.exh_walk.specs.WardRun.{WardEvent, HopAt, SplitAt, MergeAt}
use Rattle.exh_walk.specs.declared.ask_fault.AskFault.{AskFault}
use Rattle.exh_walk.specs.declared.ask_fault.AskFault.TheVariants.{Held, Memory as AskMemory, Page as AskPage}
use Rattle.exh_walk.specs.CallerWalk.{IsEnd, IsRun, IsWalked, after_fault, due_after, due_from, fault_at, hops_in}
use Rattle.exh_live.specs.Refused.{IsRefusedSo, IsSomeWardsFault}

-- whatever else might have been answered
counts_so : (T U : Type 0) (fault : WardFault) (old new : ℕ) → CountsFailures {T = T} (Err fault) old new → CountsFailures {T = U} (Err fault) old new
counts_so T U NoPage old new counts = counts
counts_so T U NotLive old new counts = counts
counts_so T U NotFull old new counts = counts
counts_so T U AtLimit old new counts = counts
counts_so T U NoBuddy old new counts = counts
counts_so T U BuddySplit old new counts = counts
counts_so T U (TooMany sum) old new counts = counts
counts_so T U Worn old new counts = counts
counts_so T U Memory old new counts = counts
counts_so T U Page old new counts = counts

pub refused_so : {P K T : Type 0} (failures : P → ℕ) (pseudokey_of : K → List ℕ → ℕ) (old new : WardState K) (result : Result T WardFault) → IsSoundWard pseudokey_of old → OnErr result (IsUnchanged old new)
    → CountsFailures result old.failures new.failures → (store : P) × (failures store ≡ new.failures) → IfErr result (IsSomeWardsFault failures pseudokey_of)
refused_so {P} {K} {T} failures pseudokey_of old new (Ok value) sound unchanged counts has = tt
refused_so {P} {K} {T} failures pseudokey_of old new (Err fault) sound unchanged counts has =
    record { old = old; new = new; sound = sound; unchanged = unchanged; counts = counts_so T (Unit {0}) fault old.failures new.failures counts; store = has.0; counted = has.1 }

-- nothing was done, for want of memory
pub refused_none : {P K : Type 0} (failures : P → ℕ) (pseudokey_of : K → List ℕ → ℕ) (ward : WardState K) → IsSoundWard pseudokey_of ward → (store : P) × (failures store ≡ ward.failures) → IsSomeWardsFault failures pseudokey_of Memory
refused_none failures pseudokey_of ward sound has = record { old = ward; new = ward; sound = sound; unchanged = refl; counts = refl; store = has.0; counted = has.1 }

module _ {P K : Type 0} (failures : P → ℕ) (pseudokey_of : K → List ℕ → ℕ) where
  pub hop_refused : (at client : ℕ) (call : Call) (result : Result Hop WardFault) → IfErr result (IsSomeWardsFault failures pseudokey_of) → IsRefusedSo failures pseudokey_of (HopAt at client call result)
  hop_refused at client call (Ok hop) refused = tt
  hop_refused at client call (Err fault) refused = refused

  pub split_refused : (at : ℕ) (result : Result Notice WardFault) → IfErr result (IsSomeWardsFault failures pseudokey_of) → IsRefusedSo failures pseudokey_of (SplitAt at result)
  split_refused at (Ok notice) refused = tt
  split_refused at (Err fault) refused = refused

apart : {R : Type 0} (result : Result Reply AskFault) (other : AskFault) → (AskPage ≡ other → R) → result ≡ Err AskPage → result ≡ Err other → R
apart result other not page_fault is = let both : Err AskPage ≡ Err other = sym page_fault ∙ is in let same : AskPage ≡ other = cc in not same

not_held : {R : Type 0} → AskPage ≡ Held → R
not_held same = cc

not_memory : {R : Type 0} → AskPage ≡ AskMemory → R
not_memory same = cc

not_answered : {R : Type 0} (result : Result Reply AskFault) (reply : Reply) → result ≡ Err AskPage → result ≡ Ok reply → R
not_answered result reply page_fault is = let both = sym page_fault ∙ is in cc

-- a walk that ends since a page is out of reach ends with a step that was refused so
module _ {P K : Type 0} (failures : P → ℕ) (pseudokey_of : K → List ℕ → ℕ) where
  abbrev Counted : Type 0
  Counted = IsSomeWardsFault failures pseudokey_of Page

  module _ (may : ℕ → Bool → Type 0) (turns : ℕ) (result : Result Reply AskFault) (page_fault : result ≡ Err AskPage) where
    never_held : result ≡ Err Held → Counted
    never_held held = apart result Held not_held page_fault held

    at_fault : (page : ℕ) (fault : WardFault) → IsSomeWardsFault failures pseudokey_of fault → IsEnd may (after_fault page (fault_at fault)) turns result → Counted
    at_fault page NoPage refused end = never_held end.0
    at_fault page NotLive refused end = never_held end.0
    at_fault page NotFull refused end = never_held end.0
    at_fault page AtLimit refused end = never_held end.0
    at_fault page NoBuddy refused end = never_held end.0
    at_fault page BuddySplit refused end = never_held end.0
    at_fault page (TooMany sum) refused end = never_held end.0
    at_fault page Worn refused end = never_held end.0
    at_fault page Memory refused end = apart result AskMemory not_memory page_fault end
    at_fault page Page refused end = refused

    at_event : (pseudokey : ℕ) (event : WardEvent) → IsRefusedSo failures pseudokey_of event → IsEnd may (due_after pseudokey event) turns result → Counted
    at_event pseudokey (HopAt page client call (Ok (Done reply))) refused end = not_answered result reply page_fault end
    at_event pseudokey (HopAt page client call (Ok (Moved next))) refused end = never_held end.0
    at_event pseudokey (HopAt page client call (Ok MustSplit)) refused end = absurd end
    at_event pseudokey (HopAt page client call (Ok Stray)) refused end = never_held end.0
    at_event pseudokey (HopAt page client call (Err fault)) refused end = at_fault page fault refused end
    at_event pseudokey (SplitAt page (Ok notice)) refused end = never_held end.0
    at_event pseudokey (SplitAt page (Err fault)) refused end = at_fault page fault refused end
    at_event pseudokey (MergeAt page merged) refused end = never_held end.0

  module _ {S : Type 0} (step : S → WardEvent → S → Type 0) (so : (old new : S) (event : WardEvent) → step old event new → IsRefusedSo failures pseudokey_of event) where
    at_end : (may : ℕ → Bool → Type 0) (old new : S) (at pseudokey turns : ℕ) (events : List WardEvent) (result : Result Reply AskFault) → IsRun step old events new → IsEnd may (due_from pseudokey at events) turns result → result ≡ Err AskPage → Counted
    at_end may old new at pseudokey turns [] result run end page_fault = never_held may turns result page_fault end.0
    at_end may old new at pseudokey turns (event ∷ earlier) result run end page_fault = at_event may turns result page_fault pseudokey event (so run.0 new event run.2) end

    pub walk_counted : (may : ℕ → Bool → Type 0) (old new : S) (at client : ℕ) (call : Call) (pseudokey : ℕ) (result : Result Reply AskFault) → IsWalked step may old at client call pseudokey result new → IfErr result (λ fault. fault ≡ AskPage → Counted)
    walk_counted may old new at client call pseudokey (Ok reply) walked = tt
    walk_counted may old new at client call pseudokey (Err fault) walked = λ is.
        at_end may old new at pseudokey (hops_in walked.events) walked.events (Err fault) walked.way.run walked.end (ap {B = Result Reply AskFault} Err is)
