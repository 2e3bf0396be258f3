-- What every run does to the map, to what copies know, and what it answers.
use Rattle.std.proofs.Common.{◌≡◌, ℕ, List, [], ◌∷◌, ◌++◌, map, refl, sym, ap, ◌∙◌, subst}
use Rattle.std.specs.Prelude.{Result, Ok, Err, slice_set}
use Rattle.std.specs.FinMap.{entries}
use Rattle.std.specs.List.{AllByRecursion}
use Rattle.std.proofs.lemmas.List.{map-append}
use Rattle.exh_prefix.specs.PrefixListLemmas.{AllByRecursion-append}
use Rattle.exh_table.specs.TableLaws.{OwnEntries, OneNoticeMore, UnionIsJoin}
use Rattle.exh_calls.specs.History.{IsHistory, map_left}
use Rattle.exh_calls.specs.CallLaws.{SharersBegin}
use Rattle.exh_ward.specs.WardState.{WardState}
use Rattle.exh_world.specs.StepEffectLemmas.{on_refusal}
use Rattle.exh_calls.specs.HistoryLemmas.{MapGoes, history_on, left_on}
use Rattle.exh_world.specs.Headline.{IsNamed}
use Rattle.exh_world.specs.WorldRun.{Moment, IsRun, Told, Knowledge, known_after, known_at_end, answered_at, answered_in, journal_entry_of}
use Rattle.exh_world.specs.Sound.{IsSoundWorld}
use Rattle.exh_world.specs.Step.{Step}
use Rattle.exh_world.specs.World.{WorldState, map_in}
use Rattle.exh_walk.specs.declared.event.Event.{Event}
use Rattle.exh_walk.specs.declared.event.Event.TheVariants.{Begin, Hop as HopOn, Split, Merge, Deliver, Send, Combine, Restart}
use Rattle.exh_walk.specs.declared.outcome.Outcome.{Outcome}
use Rattle.exh_walk.specs.declared.step_fault.StepFault.{StepFault}
use Rattle.exh_walk.specs.declared.turn.Turn.{Turn}
use Rattle.exh_world.proofs.FailureCounted.{counted_map}
use Rattle.exh_world.proofs.Known.{IsKnown}
use Rattle.exh_world.proofs.StepFacts.{IsOf, stepped}

-- ---- a refused event

known_refused : (start : Told) (known : Knowledge) (event : Event) (fault : StepFault) → known_after start known event (Err fault) ≡ known
known_refused start known (Begin name client copy call) fault = refl
known_refused start known (HopOn name) fault = refl
known_refused start known (Split ward page) fault = refl
known_refused start known (Merge ward page) fault = refl
known_refused start known (Deliver copy ward index) fault = refl
known_refused start known (Send copy) fault = refl
known_refused start known (Combine copy table) fault = refl
known_refused start known (Restart copy) fault = refl

answered_refused : {K : Type 0} (world : WorldState K) (event : Event) (fault : StepFault) → answered_at world event (Err fault) ≡ []
answered_refused world (Begin name client copy call) fault = refl
answered_refused world (HopOn name) fault = refl
answered_refused world (Split ward page) fault = refl
answered_refused world (Merge ward page) fault = refl
answered_refused world (Deliver copy ward index) fault = refl
answered_refused world (Send copy) fault = refl
answered_refused world (Combine copy table) fault = refl
answered_refused world (Restart copy) fault = refl

-- ---- one step, refused or not

pub record IsTurned {K : Type 0} (pseudokey_of : K → List ℕ → ℕ) (old : WorldState K) (turn : Turn) (new : WorldState K) : Type 0 where
  pub same : IsOf old new
  pub known : (known : Knowledge) → IsKnown known old.copies old.sent → IsKnown (known_after (entries old.start) known turn.event turn.result) new.copies new.sent
  pub goes : MapGoes old.cap (pseudokey_of old.keyer) (map_in old) (map journal_entry_of (answered_at old turn.event turn.result)) (map_in new)
  pub named_all : AllByRecursion (IsNamed old.start old.ward_bits) (answered_at old turn.event turn.result)

module _ {K : Type 0} (pseudokey_of : K → List ℕ → ℕ) (own : OwnEntries) (more : OneNoticeMore) (union : UnionIsJoin) (sharers : SharersBegin) where
  -- whatever the wards are left as, if they hold the same map
  refused : (old : WorldState K) (wards : List (WardState K)) (event : Event) (fault : StepFault) → map_in (record old { wards = wards }) ≡ map_in old
      → IsTurned pseudokey_of old (record { event = event; result = Err fault }) (record old { wards = wards })
  refused old wards event fault same = record {
    same = record { cap = refl; bits = refl; keyer = refl; start = refl };
    known = λ known are. subst (λ k. IsKnown k old.copies old.sent) (sym (known_refused (entries old.start) known event fault)) are;
    goes = subst (λ answered. MapGoes old.cap (pseudokey_of old.keyer) (map_in old) (map journal_entry_of answered) (map_in (record old { wards = wards }))) (sym (answered_refused old event fault)) same;
    named_all = subst (AllByRecursion (IsNamed old.start old.ward_bits)) (sym (answered_refused old event fault)) tt;
  }

  turned_by : (old new : WorldState K) → IsSoundWorld pseudokey_of old → IsSoundWorld pseudokey_of new → (event : Event) (result : Result Outcome StepFault) → Step pseudokey_of old event result new
      → IsTurned pseudokey_of old (record { event = event; result = result }) new
  turned_by old new sound new_sound event (Ok outcome) step =
      let is = stepped pseudokey_of old sound own more union sharers event outcome new step new_sound in
      record { same = is.same; known = is.known; goes = is.goes; named_all = is.named_all }
  turned_by old new sound new_sound event (Err fault) step =
      on_refusal pseudokey_of old (IsTurned pseudokey_of old (record { event = event; result = Err fault })) (refused old old.wards event fault refl)
      (λ number before failures found. refused old (slice_set old.wards number (record before { failures = failures })) event fault (counted_map old number before failures found)) event fault new step

  -- ---- a run

  abbrev pub AreSound : List (Moment K) → Type 0
  AreSound moments = AllByRecursion (λ (m : Moment K). IsSoundWorld pseudokey_of m.before × IsSoundWorld pseudokey_of m.after) moments

  abbrev pub turns_of : List (Moment K) → List Turn
  turns_of moments = map (λ (m : Moment K). m.turn) moments

  pub record IsRunFrom (start : WorldState K) (moments : List (Moment K)) (end : WorldState K) : Type 0 where
    pub same : IsOf start end
    pub known : (known : Knowledge) → IsKnown known start.copies start.sent → IsKnown (known_at_end (entries start.start) known (turns_of moments)) end.copies end.sent
    pub history : IsHistory start.cap (pseudokey_of start.keyer) (map_in start) (map journal_entry_of (answered_in moments))
    pub left : map_in end ≡ map_left start.cap (pseudokey_of start.keyer) (map_in start) (map journal_entry_of (answered_in moments))
    pub named_all : AllByRecursion (IsNamed start.start start.ward_bits) (answered_in moments)

  ended : (start end : WorldState K) → end ≡ start → IsRunFrom start [] end
  ended start end is = subst (IsRunFrom start []) (sym is) record {
    same = record { cap = refl; bits = refl; keyer = refl; start = refl };
    known = λ known are. are;
    history = tt;
    left = refl;
    named_all = tt;
  }

  goes_on : (start : WorldState K) (moment : Moment K) (moments : List (Moment K)) (end : WorldState K) → moment.before ≡ start → IsTurned pseudokey_of start moment.turn moment.after → IsRunFrom moment.after moments end → IsRunFrom start (moment ∷ moments) end
  goes_on start moment moments end before turn rest =
      let next = moment.after in
      let answered = answered_at start moment.turn.event moment.turn.result in
      let here : answered_in (moment ∷ moments) ≡ answered ++ answered_in moments = ap (λ (w : WorldState K). answered_at w moment.turn.event moment.turn.result ++ answered_in moments) before in
      let told : map journal_entry_of (answered_in (moment ∷ moments)) ≡ map journal_entry_of answered ++ map journal_entry_of (answered_in moments) = ap (map journal_entry_of) here ∙ map-append journal_entry_of answered (answered_in moments) in
      let rest_history : IsHistory start.cap (pseudokey_of start.keyer) (map_in next) (map journal_entry_of (answered_in moments)) =
      subst (λ keyer. IsHistory start.cap (pseudokey_of keyer) (map_in next) (map journal_entry_of (answered_in moments))) turn.same.keyer
      (subst (λ cap. IsHistory cap (pseudokey_of next.keyer) (map_in next) (map journal_entry_of (answered_in moments))) turn.same.cap rest.history) in
      let rest_left : map_in end ≡ map_left start.cap (pseudokey_of start.keyer) (map_in next) (map journal_entry_of (answered_in moments)) =
      rest.left ∙ ap (λ cap. map_left cap (pseudokey_of next.keyer) (map_in next) (map journal_entry_of (answered_in moments))) turn.same.cap
      ∙ ap (λ keyer. map_left start.cap (pseudokey_of keyer) (map_in next) (map journal_entry_of (answered_in moments))) turn.same.keyer in
      record {
        same = record { cap = rest.same.cap ∙ turn.same.cap; bits = rest.same.bits ∙ turn.same.bits; keyer = rest.same.keyer ∙ turn.same.keyer; start = rest.same.start ∙ turn.same.start };
        known = λ known are.
            subst (λ first. IsKnown (known_at_end (entries first) (known_after (entries start.start) known moment.turn.event moment.turn.result) (turns_of moments)) end.copies end.sent) turn.same.start
            (rest.known (known_after (entries start.start) known moment.turn.event moment.turn.result) (turn.known known are));
        history = subst (IsHistory start.cap (pseudokey_of start.keyer) (map_in start)) (sym told) (history_on start.cap (pseudokey_of start.keyer) (map_in start) (map_in next) (map journal_entry_of answered) (map journal_entry_of (answered_in moments)) turn.goes rest_history);
        left = rest_left ∙ left_on start.cap (pseudokey_of start.keyer) (map_in start) (map_in next) (map journal_entry_of answered) (map journal_entry_of (answered_in moments)) turn.goes
            ∙ ap (map_left start.cap (pseudokey_of start.keyer) (map_in start)) (sym told);
        named_all = subst (AllByRecursion (IsNamed start.start start.ward_bits)) (sym here)
            (AllByRecursion-append _ answered (answered_in moments) turn.named_all
            (subst (λ bits. AllByRecursion (IsNamed start.start bits) (answered_in moments)) turn.same.bits (subst (λ first. AllByRecursion (IsNamed first next.ward_bits) (answered_in moments)) turn.same.start rest.named_all)));
      }

  pub run_from : (start : WorldState K) (moments : List (Moment K)) (end : WorldState K) → AreSound moments → IsRun pseudokey_of start moments end → IsRunFrom start moments end
  run_from start [] end sound run = ended start end run
  run_from start (moment ∷ moments) end sound run =
      let turn = turned_by start moment.after (subst (IsSoundWorld pseudokey_of) run.0 sound.0.0) sound.0.1 moment.turn.event moment.turn.result run.1 in
      goes_on start moment moments end run.0 turn (run_from moment.after moments end sound.1 run.2)
