-- What comes of workers: of each thread by its promise, and of all of them the first refusal.
use Rattle.std.proofs.Common.{◌≡◌, ℕ, suc, ◌+◌, Bool, List, [], ◌∷◌, ◌++◌, length, slice_get, Option, Some, None, Result, Ok, Err, IfErr, IfOk, inl, inr, refl, sym, ap, ◌∙◌, subst, arith}
use Rattle.std.specs.Prelude.{⊤, ◌⊎◌, IsErr, IsErrAnd, MatchResult}
use Rattle.std.specs.FinMap as finite
use Rattle.std.proofs.lemmas.List.{length_push}
use Rattle.std.proofs.lemmas.Option.{slice_get_within}
use Rattle.exh_keyer.specs.Pseudokey.{sha_pseudokey}
use Rattle.exh_keyer.specs.declared.sha_keyer.ShaKeyer.{ShaKeyer}
use Rattle.exh_table.specs.Table.{TableMap}
use Rattle.exh_live.specs.LiveFile.{SeatState}
use Rattle.exh_live.specs.CursorPlaceLemmas.{AreFirst, one_more}
use Rattle.exh_page.specs.declared.storm_config.StormConfig.{StormConfig}
use Rattle.exh_live.specs.StormRounds.{IsCallerFault}
use Rattle.exh_live.specs.Refusals.{Outcome, AreAllDone, AreOfWorkers, AreOutcomes, IsEndOf, IsFaultBy, IsRefusedCaller, IsRefusedCourier, IsRefusedKeeper, IsStormFault, first_of_workers, first_refusal}
use Rattle.exh_live.specs.declared.outcomes.Outcomes.{Outcomes}
use Rattle.exh_live.specs.StormCalls.{IsServed}
use Rattle.exh_live.specs.declared.fault.StormFault.{StormFault}
use Rattle.exh_live.specs.declared.fault.StormFault.TheVariants.{Memory}

-- ---- lists that are gone through

-- each fit for its place, from a place on
abbrev pub AreFrom : {X : Type 0} → (ℕ → X → Type 0) → ℕ → List X → Type 0
AreFrom Fits place [] = ⊤
AreFrom Fits place (x ∷ xs) = Fits place x × AreFrom Fits (place + 1) xs

from_each : {X : Type 0} (Fits : ℕ → X → Type 0) (place : ℕ) (xs : List X) → ((at : ℕ) (x : X) → slice_get xs at ≡ Some x → Fits (place + at) x) → AreFrom Fits place xs
from_each Fits place [] each = tt
from_each Fits place (first ∷ xs) each = (
  subst (λ n. Fits n first) (let none : place + 0 ≡ place = omega arith in none) (each 0 first refl),
  from_each Fits (place + 1) xs (λ at x there. subst (λ n. Fits n x) (let next : place + suc at ≡ (place + 1) + at = omega arith in next) (each (suc at) x there)),
)

pub from_first : {X : Type 0} (Fits : ℕ → X → Type 0) (count : ℕ) (xs : List X) → AreFirst Fits count xs → AreFrom Fits 0 xs
from_first Fits count xs are = from_each Fits 0 xs (λ at x there. subst (λ n. Fits n x) (let same : at ≡ 0 + at = omega arith in same) (are.1 at x there))

-- none yet
none_there : {X R : Type 0} (place : ℕ) (x : X) → slice_get [] place ≡ Some x → R
none_there place x there = absurd (omega (arith, slice_get_within [] place x there))

pub first_none : {X : Type 0} (Fits : ℕ → X → Type 0) (xs : List X) → xs ≡ [] → AreFirst Fits (length xs) xs
first_none Fits [] is = (refl, λ place x there. none_there place x there)
first_none Fits (x ∷ xs) is = cc

pub none_first_yet : {X : Type 0} (Fits : ℕ → X → Type 0) (xs : List X) → xs ≡ [] → AreFirst Fits 0 xs
none_first_yet Fits [] is = (refl, λ place x there. none_there place x there)
none_first_yet Fits (x ∷ xs) is = cc

pub from_none : {X Y : Type 0} (Fits : ℕ → X → Type 0) (count : ℕ) (xs left : List X) (made : List Y) → made ≡ [] → left ≡ xs → AreFirst Fits count xs → AreFrom Fits (length made) left
from_none {X} {Y} Fits count xs left made none is are = subst (λ (n : List Y). AreFrom Fits (length n) left) (sym none) (subst (AreFrom Fits 0) (sym is) (from_first Fits count xs are))

-- one is gone through
pub from_next : {X : Type 0} (Fits : ℕ → X → Type 0) (place : ℕ) (x : X) (old rest : List X) → old ≡ x ∷ rest → AreFrom Fits place old → Fits place x × AreFrom Fits (place + 1) rest
from_next Fits place x old rest is are = subst (AreFrom Fits place) is are

-- and one is made of it
pub from_more : {X Y : Type 0} (Fits : ℕ → X → Type 0) (rest : List X) (made : List Y) (last : Y) (new : List Y) → new ≡ made ++ last ∷ [] → AreFrom Fits (length made + 1) rest → AreFrom Fits (length new) rest
from_more Fits rest made last new is are = subst (λ n. AreFrom Fits n rest) (sym (ap length is ∙ length_push made last)) are

pub first_more : {X : Type 0} (Fits : ℕ → X → Type 0) (made : List X) (last : X) (new : List X) → new ≡ made ++ last ∷ [] → AreFirst Fits (length made) made → Fits (length made) last → AreFirst Fits (length new) new
first_more Fits made last new is are fits = subst (λ n. AreFirst Fits n new) (sym (ap length is ∙ length_push made last)) (one_more Fits (length made) made last new are fits is)

pub total_more : {X Y : Type 0} (count : ℕ) (x : X) (old rest : List X) (made : List Y) (last : Y) (new : List Y) → old ≡ x ∷ rest → new ≡ made ++ last ∷ [] → length made + length old ≡ count → length new + length rest ≡ count
total_more count x old rest made last new step is total = omega (arith, ap length step, ap length is ∙ length_push made last, total)

-- ---- a thread and its worker

-- what a worker's thread gives keeps its promise
pub kept_so : {G T : Type 0} (Q : G → ℕ → StormFault → Type 0) (gate seen : G) (number told : ℕ) (result : Result T StormFault) → seen ≡ gate → told ≡ number → IfErr result (Q gate number) → IfErr result (λ fault. (fault ≡ Memory) ⊎ Q seen told fault)
kept_so Q gate seen number told (Ok value) of_gate of_number kept = tt
kept_so Q gate seen number told (Err fault) of_gate of_number kept = inr (subst (λ g. Q g told fault) (sym of_gate) (subst (λ n. Q gate n fault) (sym of_number) kept))

pub caller_kept : {T : Type 0} (counted : Type 0) (hashing : List ℕ → ℕ) (start : TableMap) (own_bits ward_bits : ℕ) (may : ℕ → Bool → Type 0) (client calls : ℕ) (result : Result T StormFault) → hashing ≡ sha_pseudokey → start ≡ finite.empty → own_bits ≡ ward_bits
    → IfErr result (IsCallerFault {K = ShaKeyer} counted (λ keyer key. sha_pseudokey key) hashing start own_bits may client calls)
    → IfErr result (IsCallerFault {K = ShaKeyer} counted (λ keyer key. sha_pseudokey key) sha_pseudokey finite.empty ward_bits may client calls)
caller_kept counted hashing start own_bits ward_bits may client calls result hashed none bits kept =
    let Kept : (List ℕ → ℕ) → TableMap → ℕ → Type 0 = λ hash table own. IfErr result (IsCallerFault {K = ShaKeyer} counted (λ keyer key. sha_pseudokey key) hash table own may client calls) in
    subst (Kept sha_pseudokey finite.empty) bits (subst (λ (table : TableMap). Kept sha_pseudokey table own_bits) none (subst (λ (hash : List ℕ → ℕ). Kept hash start own_bits) hashed kept))

-- what is joined of a thread is known of its worker, by the thread's promise; or the thread couldn't be made
pub joined : {H G T : Type 0} (Q : StormConfig → G → ℕ → StormFault → Type 0) (number : H → ℕ) (config_of : H → StormConfig) (gate_of : H → G) (place : ℕ) (config : StormConfig) (gate : G) (thread : Result H StormFault) (result : Result T StormFault)
    → ((fault : StormFault) → fault ≡ Memory → Q config gate place fault)
    → MatchResult thread (λ handle. (number handle ≡ place) × (config_of handle ≡ config) × (gate_of handle ≡ gate)) (λ fault. fault ≡ Memory)
    → MatchResult thread (λ handle. IfErr result (Q (config_of handle) (gate_of handle) (number handle))) (λ fault. result ≡ Err fault) → IfErr result (Q config gate place)
joined Q number config_of gate_of place config gate (Ok handle) result memory worker kept =
    let of_place = subst (λ n. IfErr result (Q (config_of handle) (gate_of handle) n)) worker.0 kept in
    let of_config = subst (λ c. IfErr result (Q c (gate_of handle) place)) worker.1 of_place in
    subst (λ g. IfErr result (Q config g place)) worker.2 of_config
joined Q number config_of gate_of place config gate (Err fault) result memory worker kept = subst (λ r. IfErr r (Q config gate place)) (sym kept) (memory fault worker)

-- so is what it was answered
pub served_by : {H : Type 0} (calls_of : H → ℕ) (calls : ℕ) (A : H → Type 0) (C : StormFault → Type 0) (seat : SeatState) (thread : Result H StormFault) → ((handle : H) → A handle → calls_of handle ≡ calls)
    → MatchResult thread A C → MatchResult thread (λ handle. IsServed (calls_of handle) seat) (λ fault. ⊥) → IsServed calls seat
served_by calls_of calls A C seat (Ok handle) so worker served = subst (λ n. IsServed n seat) (so handle worker) served
served_by calls_of calls A C seat (Err fault) so worker served = absurd served

-- ---- refusals that are handed on

pub memory_handed : {T : Type 0} (P : StormFault → Type 0) → ((fault : StormFault) → fault ≡ Memory → P fault) → (result : Result T StormFault) → IsErr result × IsErrAnd result (λ fault. fault ≡ Memory) → IfErr result P
memory_handed P so (Ok value) is = absurd is.1
memory_handed P so (Err fault) is = so fault is.1

pub fault_handed : {T : Type 0} (P : StormFault → Type 0) (own : StormFault) → P own → (result : Result T StormFault) → IsErr result × IsErrAnd result (λ fault. fault ≡ own) → IfErr result P
fault_handed P own has (Ok value) is = absurd is.1
fault_handed P own has (Err fault) is = subst P (sym is.1) has

-- ---- the first refusal

-- of some workers, and behind them of others
abbrev pub then_first : Outcome → List Outcome → Outcome
then_first (Ok done) rest = first_refusal rest
then_first (Err fault) rest = Err fault

first_of_both : (first rest : List Outcome) → first_refusal (first ++ rest) ≡ then_first (first_refusal first) rest
first_of_both [] rest = refl
first_of_both (Ok done ∷ first) rest = first_of_both first rest
first_of_both (Err fault ∷ first) rest = refl

pub first_then : (first rest : List Outcome) (came : Outcome) → came ≡ first_refusal first → then_first came rest ≡ first_refusal (first ++ rest)
first_then first rest came is = ap (λ (o : Outcome). then_first o rest) is ∙ sym (first_of_both first rest)

-- none was refused of the first ones
pub none_first : (first rest : List Outcome) → first_refusal (first ++ rest) ≡ Ok tt → first_refusal first ≡ Ok tt
none_first [] rest none = refl
none_first (Ok done ∷ first) rest none = none_first first rest none
none_first (Err fault ∷ first) rest none = none

pub last_refused : {R : Type 0} (first : List Outcome) (fault : StormFault) → first_refusal (first ++ Err fault ∷ []) ≡ Ok tt → R
last_refused [] fault none = cc
last_refused (Ok done ∷ first) fault none = last_refused first fault none
last_refused (Err other ∷ first) fault none = cc

-- as many seats as callers, where none was refused
module _ (seats : List SeatState) (outcomes new : List Outcome) (as_many : first_refusal outcomes ≡ Ok tt → length seats ≡ length outcomes) where
  pub one_seat_more : (seat : SeatState) (more : List SeatState) → more ≡ seats ++ seat ∷ [] → new ≡ outcomes ++ Ok tt ∷ [] → first_refusal new ≡ Ok tt → length more ≡ length new
  one_seat_more seat more is last none =
      let before = as_many (none_first outcomes (Ok tt ∷ []) (ap first_refusal (sym last) ∙ none)) in
      ap length is ∙ length_push seats seat ∙ ap (λ n. n + 1) before ∙ sym (ap length last ∙ length_push outcomes (Ok tt))

  pub one_refused : (fault : StormFault) → new ≡ outcomes ++ Err fault ∷ [] → first_refusal new ≡ Ok tt → length seats ≡ length new
  one_refused fault last none = last_refused outcomes fault (ap first_refusal (sym last) ∙ none)

-- ---- all workers

module _ (counted : Type 0) (may : ℕ → ℕ → Bool → Type 0) (config : StormConfig) where
  abbrev pub OfCaller : ℕ → Outcome → Type 0
  OfCaller place outcome = IfErr outcome (IsRefusedCaller counted config.ward_bits may config.calls (place + 1))

  abbrev pub OfKeeper : ℕ → Outcome → Type 0
  OfKeeper place outcome = IfErr outcome (IsRefusedKeeper counted may config.calls place)

  abbrev pub OfCourier : ℕ → Outcome → Type 0
  OfCourier place outcome = IfErr outcome (IsRefusedCourier may config.calls (place + 1))

  as_outcomes : (outcomes : Outcomes) → AreOfWorkers counted may config outcomes → AreOutcomes counted may config (outcomes.callers.items ++ (outcomes.keepers.items ++ outcomes.couriers.items))
  as_outcomes outcomes are = record {
    callers = outcomes.callers.items;
    keepers = outcomes.keepers.items;
    couriers = outcomes.couriers.items;
    all = refl;
    of_callers = are.of_callers;
    of_keepers = are.of_keepers;
    of_couriers = are.of_couriers;
  }

  ended_by : (outcomes : Outcomes) (fault : StormFault) (first : Outcome) → AreOfWorkers counted may config outcomes → first_of_workers outcomes ≡ first → IsEndOf config first fault → IsStormFault counted may config fault
  ended_by outcomes fault (Err other) are is end = inr (inl (outcomes.callers.items ++ (outcomes.keepers.items ++ outcomes.couriers.items), as_outcomes outcomes are, is ∙ ap {B = Outcome} Err (sym end)))
  ended_by outcomes fault (Ok done) are is (inl memory) = inl memory
  ended_by outcomes fault (Ok done) are is (inr unsettled) = inr (inr unsettled)

  -- why a storm ends by the outcomes that are handed out
  pub by_outcomes : (outcomes : Option Outcomes) (fault : StormFault) → IsFaultBy counted may config outcomes fault → IsStormFault counted may config fault
  by_outcomes None fault memory = inl memory
  by_outcomes (Some outcomes) fault (are, end) = ended_by outcomes fault (first_of_workers outcomes) are refl end

  -- an end by outcomes that are handed out
  pub fault_by : {T : Type 0} (outcomes : Outcomes) (handed : Option Outcomes) (left : Result T StormFault) → handed ≡ Some outcomes → AreOfWorkers counted may config outcomes → IfErr left (IsEndOf config (first_of_workers outcomes))
      → IfErr left (IsFaultBy counted may config handed)
  fault_by outcomes handed (Ok value) is are end = tt
  fault_by outcomes handed (Err fault) is are end = subst (λ (h : Option Outcomes). IsFaultBy counted may config h fault) (sym is) (are, end)

  pub done_by : {T : Type 0} (outcomes : Outcomes) (handed : Option Outcomes) (left : Result T StormFault) → handed ≡ Some outcomes → AreOfWorkers counted may config outcomes → IfOk left (λ value. first_of_workers outcomes ≡ Ok tt)
      → IfOk left (λ value. AreAllDone counted may config handed)
  done_by outcomes handed (Ok value) is are done = subst (AreAllDone counted may config) (sym is) (are, done)
  done_by outcomes handed (Err fault) is are done = tt

-- whatever a result has
pub if_ok : {T E : Type 0} (P : Type 0) (result : Result T E) → P → IfOk result (λ value. P)
if_ok P (Ok value) holds = holds
if_ok P (Err fault) holds = tt
