-- Why a storm isn't settled.
use Rattle.std.specs.Prelude.{◌≡◌, ◌⊎◌, ℕ, ◌+◌, ◌^◌, Bool, List, [], ◌∷◌, ◌++◌, length, map, Option, Some, None, Result, Ok, Err, IfErr}
use Rattle.std.specs.FinMap as finite
use Rattle.exh_prefix.specs.Leading.{ward_of}
use Rattle.exh_keyer.specs.Pseudokey.{sha_pseudokey}
use Rattle.exh_keyer.specs.declared.sha_keyer.ShaKeyer.{ShaKeyer}
use Rattle.exh_calls.specs.Diary.{DiaryState}
use Rattle.exh_calls.specs.Settled.{IsSettled}
use Rattle.exh_ward.specs.WardState.{WardState}
use Rattle.exh_ward.specs.declared.ward_fault.WardFault.TheVariants.{Page as OutOfReach}
use Rattle.exh_live.specs.Closing.{AreInOrder, entries_made, answers_given}
use Rattle.exh_live.specs.CursorPlaceLemmas.{AreFirst}
use Rattle.exh_live.specs.Refused.{IsSomeWardsFault}
use Rattle.exh_page.specs.declared.storm_config.StormConfig.{StormConfig}
use Rattle.exh_live.specs.StormCalls.{AreServed}
use Rattle.exh_live.specs.StormRounds.{IsCallerFault, IsCourierFault, IsKeeperFault}
use Rattle.exh_live.specs.declared.courier.TheConstants.{COURIER_CLIENT}
use Rattle.exh_live.specs.declared.keeper.TheConstants.{KEEPER_CLIENT}
use Rattle.exh_live.specs.declared.fault.StormFault.{StormFault}
use Rattle.exh_live.specs.declared.fault.StormFault.TheVariants.{Memory, Mismatch}
use Rattle.exh_live.specs.declared.outcomes.Outcomes.{Outcomes}

-- what came of a worker
abbrev pub Outcome : Type 0
Outcome = Result (Unit {0}) StormFault

-- the first refusal of what came of the workers, if there is one
abbrev pub first_refusal : List Outcome → Outcome
first_refusal [] = Ok tt
first_refusal (Ok _ ∷ rest) = first_refusal rest
first_refusal (Err fault ∷ _) = Err fault

-- it was refused, if it was, since its thread couldn't be made, or as such a worker may be
abbrev pub IsRefusedAs : (StormFault → Type 0) → StormFault → Type 0
IsRefusedAs IsFault fault = (fault ≡ Memory) ⊎ IsFault fault

-- a ward of the storm's file met a page out of reach, which a store of these failures has counted
abbrev pub HasCounted : {P : Type 0} → (P → ℕ) → Type 0
HasCounted failures = IsSomeWardsFault {K = ShaKeyer} failures (λ keyer key. sha_pseudokey key) OutOfReach

-- why a caller of a storm of new files is refused, by its number; `counted` says that a page out of reach was counted
abbrev pub IsRefusedCaller : Type 0 → ℕ → (ℕ → ℕ → Bool → Type 0) → ℕ → ℕ → StormFault → Type 0
IsRefusedCaller counted ward_bits may calls client = IsRefusedAs (IsCallerFault {K = ShaKeyer} counted (λ keyer key. sha_pseudokey key) sha_pseudokey finite.empty ward_bits (may client) client calls)

-- a keeper, by its ward's number
abbrev pub IsRefusedKeeper : Type 0 → (ℕ → ℕ → Bool → Type 0) → ℕ → ℕ → StormFault → Type 0
IsRefusedKeeper counted may rounds ward = IsRefusedAs (IsKeeperFault counted (may (KEEPER_CLIENT + ward)) rounds)

-- a courier, by its copy's number
abbrev pub IsRefusedCourier : (ℕ → ℕ → Bool → Type 0) → ℕ → ℕ → StormFault → Type 0
IsRefusedCourier may rounds number = IsRefusedAs (IsCourierFault (may (COURIER_CLIENT + number)) rounds)

-- what came of all workers: of the callers by their numbers, then of the keepers by their wards', then of the couriers by their copies'
pub record AreOutcomes (counted : Type 0) (may : ℕ → ℕ → Bool → Type 0) (config : StormConfig) (outcomes : List Outcome) : Type 0 where
  pub callers : List Outcome
  pub keepers : List Outcome
  pub couriers : List Outcome
  pub all : outcomes ≡ callers ++ (keepers ++ couriers)
  pub of_callers : AreFirst (λ place (outcome : Outcome). IfErr outcome (IsRefusedCaller counted config.ward_bits may config.calls (place + 1))) config.callers callers
  pub of_keepers : AreFirst (λ place (outcome : Outcome). IfErr outcome (IsRefusedKeeper counted may config.calls place)) (2 ^ config.ward_bits) keepers
  pub of_couriers : AreFirst (λ place (outcome : Outcome). IfErr outcome (IsRefusedCourier may config.calls (place + 1))) config.copies couriers

-- the first refusal of the workers
abbrev pub IsWorkersFault : Type 0 → (ℕ → ℕ → Bool → Type 0) → StormConfig → StormFault → Type 0
IsWorkersFault counted may config fault = (outcomes : List Outcome) × AreOutcomes counted may config outcomes × (first_refusal outcomes ≡ Err fault)

-- each caller was answered its calls, and the wards have as many entries as the callers got answers; but journals and diaries don't say the same
pub record IsUnsettled (config : StormConfig) : Type 0 where
  pub wards : List (WardState ShaKeyer)
  pub diaries : List DiaryState
  pub count : length wards ≡ 2 ^ config.ward_bits
  pub order : AreInOrder wards
  pub callers : length diaries ≡ config.callers
  pub served : AreServed config.calls diaries
  pub equally_many : entries_made wards ≡ answers_given diaries
  pub unsettled : ¬ IsSettled (λ key. ward_of config.ward_bits (sha_pseudokey key)) (map (λ ward. ward.journal) wards) diaries

-- want of memory, which may come at any point; or the first refusal of the workers; or none was refused, and what they left isn't settled
abbrev pub IsStormFault : Type 0 → (ℕ → ℕ → Bool → Type 0) → StormConfig → StormFault → Type 0
IsStormFault counted may config fault = (fault ≡ Memory) ⊎ (IsWorkersFault counted may config fault ⊎ ((fault ≡ Mismatch) × IsUnsettled config))

-- ---- by the outcomes that are handed out

-- the outcomes are those of a storm's workers: of each caller, each keeper and each courier in turn
pub record AreOfWorkers (counted : Type 0) (may : ℕ → ℕ → Bool → Type 0) (config : StormConfig) (outcomes : Outcomes) : Type 0 where
  pub of_callers : AreFirst (λ place (outcome : Outcome). IfErr outcome (IsRefusedCaller counted config.ward_bits may config.calls (place + 1))) config.callers outcomes.callers.items
  pub of_keepers : AreFirst (λ place (outcome : Outcome). IfErr outcome (IsRefusedKeeper counted may config.calls place)) (2 ^ config.ward_bits) outcomes.keepers.items
  pub of_couriers : AreFirst (λ place (outcome : Outcome). IfErr outcome (IsRefusedCourier may config.calls (place + 1))) config.copies outcomes.couriers.items

-- the first refusal of the callers, then of the keepers, then of the couriers, if there is one
abbrev pub first_of_workers : Outcomes → Outcome
first_of_workers outcomes = first_refusal (outcomes.callers.items ++ (outcomes.keepers.items ++ outcomes.couriers.items))

-- why a storm ends unsettled whose workers' first refusal is this, if there is one: for that; else its file couldn't be closed for want of memory, or isn't settled
abbrev pub IsEndOf : StormConfig → Outcome → StormFault → Type 0
IsEndOf config (Err first) fault = fault ≡ first
IsEndOf config (Ok done) fault = (fault ≡ Memory) ⊎ ((fault ≡ Mismatch) × IsUnsettled config)

-- why a storm ends unsettled by the outcomes that it hands out: without any for want of memory alone
abbrev pub IsFaultBy : Type 0 → (ℕ → ℕ → Bool → Type 0) → StormConfig → Option Outcomes → StormFault → Type 0
IsFaultBy counted may config None fault = fault ≡ Memory
IsFaultBy counted may config (Some outcomes) fault = AreOfWorkers counted may config outcomes × IsEndOf config (first_of_workers outcomes) fault

-- a storm that is settled hands out outcomes of which none is a refusal
abbrev pub AreAllDone : Type 0 → (ℕ → ℕ → Bool → Type 0) → StormConfig → Option Outcomes → Type 0
AreAllDone counted may config None = ⊥
AreAllDone counted may config (Some outcomes) = AreOfWorkers counted may config outcomes × (first_of_workers outcomes ≡ Ok tt)
