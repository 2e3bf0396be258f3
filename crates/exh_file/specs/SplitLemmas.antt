-- What splits of a ward keep, and splits after splits.
use Rattle.std.proofs.Common.{◌≡◌, ℕ, List, [], ◌∷◌, ◌++◌, sym, ap, ◌∙◌, subst}
use Rattle.exh_prefix.specs.Leading.{ward_prefix}
use Rattle.exh_notice.specs.declared.notice.Notice.{Notice}
use Rattle.exh_page.specs.KeyMap.{KeyMap}
use Rattle.exh_legal.specs.Pages.{map_of}
use Rattle.exh_calls.specs.declared.call.Call.{Call}
use Rattle.exh_calls.specs.declared.journal_entry.JournalEntry.{JournalEntry}
use Rattle.exh_calls.specs.declared.reply.Reply.{Reply}
use Rattle.exh_calls.specs.MapMachine.{reply_of, map_after}
use Rattle.exh_ward.specs.HopTable.{HopOf}
use Rattle.exh_ward.specs.declared.hop.Hop.{Hop}
use Rattle.exh_ward.specs.declared.hop.Hop.TheVariants.{Done}
use Rattle.exh_ward.specs.WardState.{WardState, IsAnswered, LeavesAfter, own_prefix}
use Rattle.exh_file.specs.declared.ward_change.TheConstants.{CHANGER}
use Rattle.exh_file.specs.WardChange.{AreSplits, AreSplitsAtMost, IsChanged}

-- what splits keep
pub record IsKept {K : Type 0} (old new : WardState K) : Type 0 where
  pub cap : new.cap ≡ old.cap
  pub keyer : new.keyer ≡ old.keyer
  pub bits : new.ward_bits ≡ old.ward_bits
  pub number : new.number ≡ old.number
  pub failures : new.failures ≡ old.failures
  pub journal : new.journal ≡ old.journal
  pub map : map_of new.pages ≡ map_of old.pages

pub splits_keep : {K : Type 0} (old : WardState K) (splits : List (ℕ × Notice)) (new : WardState K) → AreSplits old splits new → IsKept old new
splits_keep {K} old [] new run = record {
  cap = ap (λ (w : WardState K). w.cap) run;
  keyer = ap (λ (w : WardState K). w.keyer) run;
  bits = ap (λ (w : WardState K). w.ward_bits) run;
  number = ap (λ (w : WardState K). w.number) run;
  failures = ap (λ (w : WardState K). w.failures) run;
  journal = ap (λ (w : WardState K). w.journal) run;
  map = ap (λ (w : WardState K). map_of w.pages) run;
}
splits_keep {K} old (split ∷ earlier) new run =
    let before = splits_keep old earlier run.0 run.1 in
    let others = run.2.others in
    record {
      cap = ap (λ (w : WardState K). w.cap) others ∙ before.cap;
      keyer = ap (λ (w : WardState K). w.keyer) others ∙ before.keyer;
      bits = ap (λ (w : WardState K). w.ward_bits) others ∙ before.bits;
      number = ap (λ (w : WardState K). w.number) others ∙ before.number;
      failures = ap (λ (w : WardState K). w.failures) others ∙ before.failures;
      journal = ap (λ (w : WardState K). w.journal) others ∙ before.journal;
      map = run.2.map ∙ before.map;
    }

pub own_kept : {K : Type 0} (old new : WardState K) → IsKept old new → own_prefix new ≡ own_prefix old
own_kept old new kept = ap (λ (bits : ℕ). ward_prefix bits new.number) kept.bits ∙ ap (λ (number : ℕ). ward_prefix old.ward_bits number) kept.number

splits_on : {K : Type 0} (old between new : WardState K) (splits more : List (ℕ × Notice)) → AreSplits old splits between → AreSplits between more new → AreSplits old (more ++ splits) new
splits_on old between new splits [] run on = subst (AreSplits old splits) (sym on) run
splits_on old between new splits (split ∷ more) run on = (on.0, splits_on old between on.0 splits more run on.1, on.2)

pub at_most_on : {K : Type 0} (old between new : WardState K) (splits : List (ℕ × Notice)) → AreSplits old splits between → AreSplitsAtMost between new → AreSplitsAtMost old new
at_most_on old between new splits run most = record {
  splits = most.splits ++ splits;
  split = most.split;
  run = splits_on old between most.split splits most.splits run most.run;
  else_same = most.else_same;
}

-- what is read of cap, keyer and map is the same after splits
same_machine : {K A : Type 0} (pseudokey_of : K → List ℕ → ℕ) (read : ℕ → (List ℕ → ℕ) → KeyMap → A) (old new : WardState K) → IsKept old new
    → read new.cap (pseudokey_of new.keyer) (map_of new.pages) ≡ read old.cap (pseudokey_of old.keyer) (map_of old.pages)
same_machine {K} pseudokey_of read old new kept =
    ap (λ (cap : ℕ). read cap (pseudokey_of new.keyer) (map_of new.pages)) kept.cap
    ∙ ap (λ (keyer : K). read old.cap (pseudokey_of keyer) (map_of new.pages)) kept.keyer
    ∙ ap (λ (m : KeyMap). read old.cap (pseudokey_of old.keyer) m) kept.map

-- an answer after splits
pub call_done : {K : Type 0} (pseudokey_of : K → List ℕ → ℕ) (old ward new : WardState K) (splits : List (ℕ × Notice)) (at : ℕ) (call : Call) (hop : Hop) (reply : Reply)
    → AreSplits old splits ward → hop ≡ Done reply → HopOf ward.cap (pseudokey_of ward.keyer) ward.pages at call hop → LeavesAfter pseudokey_of ward at CHANGER call hop new
    → IsChanged pseudokey_of old call reply new
call_done pseudokey_of old ward new splits at call hop reply run is table leaves =
    let kept = splits_keep old splits ward run in
    let done : HopOf ward.cap (pseudokey_of ward.keyer) ward.pages at call (Done reply) = subst (HopOf ward.cap (pseudokey_of ward.keyer) ward.pages at call) is table in
    let answered : IsAnswered pseudokey_of ward at CHANGER call reply new = subst (λ h. LeavesAfter pseudokey_of ward at CHANGER call h new) is leaves in
    record {
      splits = splits;
      split = ward;
      run = run;
      home = at;
      answered = answered;
      reply_is = done.4 ∙ same_machine pseudokey_of (λ cap pseudo m. reply_of cap pseudo m call) old ward kept;
      map = answered.map ∙ same_machine pseudokey_of (λ cap pseudo m. map_after cap pseudo m call) old ward kept;
      journal = answered.journal ∙ ap (λ (entries : List JournalEntry). entries ++ record { client = CHANGER; call = call; reply = reply } ∷ []) kept.journal;
    }
