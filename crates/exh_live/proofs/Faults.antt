-- What follows from why a storm isn't settled.
use Rattle.std.proofs.Common.{◌≡◌, ℕ, ◌+◌, Bool, List, [], ◌∷◌, ◌++◌, Ok, Err, IfErr, inl, inr, sym, ap, ◌∙◌, subst, arith}
use Rattle.std.specs.Prelude.{◌⊎◌, ◌≢◌}
use Rattle.std.specs.FinMap as finite
use Rattle.exh_keyer.specs.Pseudokey.{sha_pseudokey}
use Rattle.exh_keyer.specs.declared.sha_keyer.ShaKeyer.{ShaKeyer}
use Rattle.exh_walk.specs.CallerWalk.{ask_fault_number}
use Rattle.exh_walk.specs.declared.ask_fault.AskFault.{AskFault}
use Rattle.exh_walk.specs.declared.ask_fault.AskFault.TheVariants.{Held as AskHeld, Memory as AskMemory, Page as AskPage}
use Rattle.exh_live.specs.CursorPlaceLemmas.{AreFirst}
use Rattle.exh_page.specs.declared.storm_config.StormConfig.{StormConfig}
use Rattle.exh_live.specs.Refusals.{Outcome, AreOutcomes, IsRefusedAs, IsRefusedCaller, IsRefusedCourier, IsRefusedKeeper, IsStormFault, IsWorkersFault, first_refusal}
use Rattle.exh_live.specs.StormFault.{storm_fault_number}
use Rattle.exh_live.specs.StormRounds.{IsCallerFault, IsCourierFault, IsKeeperFault}
use Rattle.exh_live.specs.declared.courier.TheConstants.{COURIER_CLIENT}
use Rattle.exh_live.specs.declared.keeper.TheConstants.{KEEPER_CLIENT}
use Rattle.exh_live.specs.declared.fault.StormFault.{StormFault}
use Rattle.exh_live.specs.declared.fault.StormFault.TheVariants.{Memory, Page, Held, Mismatch, Seats}
use Rattle.exh_live.proofs.FirstRefusals.{AreFrom, from_first}

-- ---- whose refusal it is

-- the first refusal is that of one of them
found_from : (Faults : ℕ → StormFault → Type 0) (place : ℕ) (outcomes : List Outcome) (fault : StormFault) → AreFrom (λ at (outcome : Outcome). IfErr outcome (Faults at)) place outcomes → first_refusal outcomes ≡ Err fault → (at : ℕ) × Faults at fault
found_from Faults place [] fault are is = cc
found_from Faults place (Ok done ∷ rest) fault are is = found_from Faults (place + 1) rest fault are.1 is
found_from Faults place (Err other ∷ rest) fault are is = let same : other ≡ fault = cc in (place, subst (Faults place) same are.0)

found : (Faults : ℕ → StormFault → Type 0) (count : ℕ) (outcomes : List Outcome) (fault : StormFault) → AreFirst (λ at (outcome : Outcome). IfErr outcome (Faults at)) count outcomes → first_refusal outcomes ≡ Err fault → (at : ℕ) × Faults at fault
found Faults count outcomes fault are is = found_from Faults 0 outcomes fault (from_first (λ at (outcome : Outcome). IfErr outcome (Faults at)) count outcomes are) is

-- of the first ones, or of the rest
one_of_both : (first rest : List Outcome) (fault : StormFault) → first_refusal (first ++ rest) ≡ Err fault → (first_refusal first ≡ Err fault) ⊎ (first_refusal rest ≡ Err fault)
one_of_both [] rest fault is = inr is
one_of_both (Ok done ∷ first) rest fault is = one_of_both first rest fault is
one_of_both (Err other ∷ first) rest fault is = inl is

module _ (counted : Type 0) (may : ℕ → ℕ → Bool → Type 0) (config : StormConfig) (fault : StormFault) where
  whose : IsWorkersFault counted may config fault
      → ((at : ℕ) × IsRefusedCaller counted config.ward_bits may config.calls (at + 1) fault) ⊎ (((at : ℕ) × IsRefusedKeeper counted may config.calls at fault) ⊎ ((at : ℕ) × IsRefusedCourier may config.calls (at + 1) fault))
  whose (outcomes, are, is) = elim (one_of_both are.callers (are.keepers ++ are.couriers) fault (ap first_refusal (sym are.all) ∙ is)) [
    | inl called ↦ inl (found (λ at. IsRefusedCaller counted config.ward_bits may config.calls (at + 1)) config.callers are.callers fault are.of_callers called)
    | inr later ↦ elim (one_of_both are.keepers are.couriers fault later) [
      | inl kept ↦ inr (inl (found (λ at. IsRefusedKeeper counted may config.calls at) _ are.keepers fault are.of_keepers kept))
      | inr carried ↦ inr (inr (found (λ at. IsRefusedCourier may config.calls (at + 1)) config.copies are.couriers fault are.of_couriers carried))
    ]
  ]

-- ---- a page out of reach was counted

not_memory : {R : Type 0} (fault : StormFault) → fault ≡ Page → fault ≡ Memory → R
not_memory fault page memory = let both = sym page ∙ memory in cc

not_mismatch : {R : Type 0} (fault : StormFault) → fault ≡ Page → fault ≡ Mismatch → R
not_mismatch fault page mismatch = let both = sym page ∙ mismatch in cc

keeper_counted : (counted : Type 0) (may : ℕ → Bool → Type 0) (rounds : ℕ) (fault : StormFault) → fault ≡ Page → IsKeeperFault counted may rounds fault → counted
keeper_counted counted may rounds fault page is = subst (IsKeeperFault counted may rounds) page is

courier_reaches : {R : Type 0} (may : ℕ → Bool → Type 0) (rounds : ℕ) (fault : StormFault) → fault ≡ Page → IsCourierFault may rounds fault → R
courier_reaches may rounds fault page is = absurd (subst (IsCourierFault may rounds) page is)

pub page_counted : (counted : Type 0) (may : ℕ → ℕ → Bool → Type 0) (config : StormConfig) (fault : StormFault) → IsStormFault counted may config fault → fault ≡ Page → counted
page_counted counted may config fault (inl memory) page = not_memory fault page memory
page_counted counted may config fault (inr (inr unsettled)) page = not_mismatch fault page unsettled.0
page_counted counted may config fault (inr (inl workers)) page = elim (whose counted may config fault workers) [
  | inl (at, inl memory) ↦ not_memory fault page memory
  | inl (at, inr called) ↦ called.8 page
  | inr (inl (at, inl memory)) ↦ not_memory fault page memory
  | inr (inl (at, inr kept)) ↦ keeper_counted counted (may (KEEPER_CLIENT + at)) config.calls fault page kept
  | inr (inr (at, inl memory)) ↦ not_memory fault page memory
  | inr (inr (at, inr carried)) ↦ courier_reaches (may (COURIER_CLIENT + (at + 1))) config.calls fault page carried
]

-- ---- no seat is missing

seats_memory : {R : Type 0} (fault : StormFault) → fault ≡ Seats → fault ≡ Memory → R
seats_memory fault seats memory = let both = sym seats ∙ memory in cc

seats_mismatch : {R : Type 0} (fault : StormFault) → fault ≡ Seats → fault ≡ Mismatch → R
seats_mismatch fault seats mismatch = let both = sym seats ∙ mismatch in cc

no_ask : {R : Type 0} (asked : AskFault) → 52 ≡ ask_fault_number asked → R
no_ask AskHeld is = absurd (omega (arith, is))
no_ask AskMemory is = absurd (omega (arith, is))
no_ask AskPage is = absurd (omega (arith, is))

keeper_sits : {R : Type 0} (counted : Type 0) (may : ℕ → Bool → Type 0) (rounds : ℕ) (fault : StormFault) → fault ≡ Seats → IsKeeperFault counted may rounds fault → R
keeper_sits counted may rounds fault seats is = absurd (subst (IsKeeperFault counted may rounds) seats is)

courier_sits : {R : Type 0} (may : ℕ → Bool → Type 0) (rounds : ℕ) (fault : StormFault) → fault ≡ Seats → IsCourierFault may rounds fault → R
courier_sits may rounds fault seats is = absurd (subst (IsCourierFault may rounds) seats is)

pub never_seats : (counted : Type 0) (may : ℕ → ℕ → Bool → Type 0) (config : StormConfig) (fault : StormFault) → IsStormFault counted may config fault → fault ≢ Seats
never_seats counted may config fault (inl memory) seats = seats_memory fault seats memory
never_seats counted may config fault (inr (inr unsettled)) seats = seats_mismatch fault seats unsettled.0
never_seats counted may config fault (inr (inl workers)) seats = elim (whose counted may config fault workers) [
  | inl (at, inl memory) ↦ seats_memory fault seats memory
  | inl (at, inr called) ↦ no_ask called.5 (sym (ap storm_fault_number seats) ∙ called.7)
  | inr (inl (at, inl memory)) ↦ seats_memory fault seats memory
  | inr (inl (at, inr kept)) ↦ keeper_sits counted (may (KEEPER_CLIENT + at)) config.calls fault seats kept
  | inr (inr (at, inl memory)) ↦ seats_memory fault seats memory
  | inr (inr (at, inr carried)) ↦ courier_sits (may (COURIER_CLIENT + (at + 1))) config.calls fault seats carried
]

-- ---- where more is known of a page out of reach

module _ {A B : Type 0} (so : A → B) where
  caller_so : (start_bits calls client : ℕ) (may : ℕ → Bool → Type 0) (fault : StormFault) → IsCallerFault {K = ShaKeyer} A (λ keyer key. sha_pseudokey key) sha_pseudokey finite.empty start_bits may client calls fault
      → IsCallerFault {K = ShaKeyer} B (λ keyer key. sha_pseudokey key) sha_pseudokey finite.empty start_bits may client calls fault
  caller_so start_bits calls client may fault is = (is.0, is.1, is.2, is.3, is.4, is.5, is.6, is.7, λ page. so (is.8 page))

  keeper_so : (may : ℕ → Bool → Type 0) (rounds : ℕ) (fault : StormFault) → IsKeeperFault A may rounds fault → IsKeeperFault B may rounds fault
  keeper_so may rounds Held is = is
  keeper_so may rounds Memory is = is
  keeper_so may rounds Page is = so is
  keeper_so may rounds Mismatch is = is
  keeper_so may rounds Seats is = is

  outcome_so : (From To : StormFault → Type 0) → ((fault : StormFault) → From fault → To fault) → (outcome : Outcome) → IfErr outcome (IsRefusedAs From) → IfErr outcome (IsRefusedAs To)
  outcome_so From To each (Ok done) is = tt
  outcome_so From To each (Err fault) (inl memory) = inl memory
  outcome_so From To each (Err fault) (inr is) = inr (each fault is)

  module _ (may : ℕ → ℕ → Bool → Type 0) (config : StormConfig) where
    abbrev CallerFault : Type 0 → ℕ → StormFault → Type 0
    CallerFault counted client = IsCallerFault {K = ShaKeyer} counted (λ keyer key. sha_pseudokey key) sha_pseudokey finite.empty config.ward_bits (may client) client config.calls

    outcomes_so : (outcomes : List Outcome) → AreOutcomes A may config outcomes → AreOutcomes B may config outcomes
    outcomes_so outcomes are = record {
      callers = are.callers;
      keepers = are.keepers;
      couriers = are.couriers;
      all = are.all;
      of_callers = (are.of_callers.0, λ place outcome there. outcome_so (CallerFault A (place + 1)) (CallerFault B (place + 1)) (caller_so config.ward_bits config.calls (place + 1) (may (place + 1))) outcome (are.of_callers.1 place outcome there));
      of_keepers = (are.of_keepers.0, λ place outcome there. outcome_so (IsKeeperFault A (may (KEEPER_CLIENT + place)) config.calls) (IsKeeperFault B (may (KEEPER_CLIENT + place)) config.calls) (keeper_so (may (KEEPER_CLIENT + place)) config.calls) outcome (are.of_keepers.1 place outcome there));
      of_couriers = are.of_couriers;
    }

    pub storm_so : (fault : StormFault) → IsStormFault A may config fault → IsStormFault B may config fault
    storm_so fault (inl memory) = inl memory
    storm_so fault (inr (inl workers)) = inr (inl (workers.0, outcomes_so workers.0 workers.1, workers.2))
    storm_so fault (inr (inr unsettled)) = inr (inr unsettled)
