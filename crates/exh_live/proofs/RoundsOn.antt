-- One round more of a keeper or a courier, and why a caller is refused.
use Rattle.std.proofs.Common.{◌≡◌, ℕ, suc, ◌+◌, ◌≤◌, Bool, true, List, ◌∷◌, [], ◌++◌, Result, Ok, Err, IfErr, refl, sym, ap, ◌∙◌, subst, arith}
use Rattle.std.specs.Prelude.{IsErr, IsErrAnd}
use Rattle.exh_table.specs.Table.{TableMap}
use Rattle.exh_calls.specs.declared.call.Call.{Call}
use Rattle.exh_copy.specs.Additions.{Additions, Held as HeldByCopy}
use Rattle.exh_walk.specs.CallerWalk.{ask_fault_number}
use Rattle.exh_walk.specs.declared.ask_fault.AskFault.{AskFault}
use Rattle.exh_walk.specs.declared.ask_fault.AskFault.TheVariants.{Held as AskHeld, Memory as AskMemory, Page as AskPage}
use Rattle.exh_ward.specs.WardFault.{IsStoreFault, ward_fault_number}
use Rattle.exh_ward.specs.declared.ward_fault.WardFault.{WardFault}
use Rattle.exh_ward.specs.declared.ward_fault.WardFault.TheVariants.{NoPage, NotLive, NotFull, AtLimit, NoBuddy, BuddySplit, TooMany, Worn, Memory as WardMemory, Page as OutOfReach}
use Rattle.exh_live.specs.Locked.{IsAsked, IsFirstPage}
use Rattle.exh_live.specs.CursorPlaceLemmas.{one_more}
use Rattle.exh_live.specs.Rounds.{IsKeeperRound}
use Rattle.exh_live.specs.StormCalls.{storm_call}
use Rattle.exh_live.specs.StormFault.{storm_fault_number}
use Rattle.exh_live.specs.StormRounds.{AreCourierRounds, AreKeeperRounds, IsCallerFault, IsCourierRound, IsKeeperFault}
use Rattle.exh_live.specs.declared.fault.StormFault.{StormFault}
use Rattle.exh_live.specs.declared.fault.StormFault.TheVariants.{Memory, Page, Held, Mismatch, Seats}

-- a loop that ends no sooner and no later ends there
pub so_many : {done rounds : ℕ} → rounds ≤ done → done ≤ rounds → done ≡ rounds
so_many least most = omega arith

-- a refusal that is handed on as another
handed_on : {T : Type 0} (From To : StormFault → Type 0) → ((fault : StormFault) → From fault → To fault) → (result : Result T StormFault) → IsErr result × IsErrAnd result From → IfErr result To
handed_on From To so (Ok value) is = absurd is.1
handed_on From To so (Err fault) is = so fault is.1

-- the one refusal of this number
asked_page : (asked : AskFault) → ask_fault_number asked ≡ 11 → asked ≡ AskPage
asked_page AskHeld is = absurd (omega (arith, is))
asked_page AskMemory is = absurd (omega (arith, is))
asked_page AskPage is = refl

-- what a round of a keeper that was refused comes to
pub keeper_refused : {counted : Type 0} (may : ℕ → Bool → Type 0) (rounds : ℕ) (fault : WardFault) (told : StormFault) → IsStoreFault fault → storm_fault_number told ≡ ward_fault_number fault → (fault ≡ OutOfReach → counted) → IsKeeperFault counted may rounds told
keeper_refused may rounds WardMemory Memory store is reached = tt
keeper_refused may rounds WardMemory Page store is reached = absurd (omega (arith, is))
keeper_refused may rounds WardMemory Held store is reached = absurd (omega (arith, is))
keeper_refused may rounds WardMemory Mismatch store is reached = absurd (omega (arith, is))
keeper_refused may rounds WardMemory Seats store is reached = absurd (omega (arith, is))
keeper_refused may rounds OutOfReach Memory store is reached = tt
keeper_refused may rounds OutOfReach Page store is reached = reached refl
keeper_refused may rounds OutOfReach Held store is reached = absurd (omega (arith, is))
keeper_refused may rounds OutOfReach Mismatch store is reached = absurd (omega (arith, is))
keeper_refused may rounds OutOfReach Seats store is reached = absurd (omega (arith, is))
keeper_refused may rounds NoPage told store is reached = absurd store
keeper_refused may rounds NotLive told store is reached = absurd store
keeper_refused may rounds NotFull told store is reached = absurd store
keeper_refused may rounds AtLimit told store is reached = absurd store
keeper_refused may rounds NoBuddy told store is reached = absurd store
keeper_refused may rounds BuddySplit told store is reached = absurd store
keeper_refused may rounds (TooMany sum) told store is reached = absurd store
keeper_refused may rounds Worn told store is reached = absurd store

-- of a caller the call after those done was refused
pub caller_refused : {K T : Type 0} (counted : Type 0) (pseudokey_of : K → List ℕ → ℕ) (hashing : List ℕ → ℕ) (start : TableMap) (ward_bits : ℕ) (may : ℕ → ℕ → Bool → Type 0) (own client done calls : ℕ) (call : Call) (old new : HeldByCopy) (asked : AskFault)
    → (result : Result T StormFault) → client ≡ own → call ≡ storm_call own (done + 1) → done + 1 ≤ calls → IsAsked {K = K} pseudokey_of hashing (IsFirstPage start ward_bits old new) (may client) client call (Err asked)
    → IsErr result × IsErrAnd result (λ fault. storm_fault_number fault ≡ ask_fault_number asked) → (asked ≡ AskPage → counted) → IfErr result (IsCallerFault {K = K} counted pseudokey_of hashing start ward_bits (may own) own calls)
caller_refused {K} {T} counted pseudokey_of hashing start ward_bits may own client done calls call old new asked result same is within walk refused reached =
    let Asked : ℕ → Call → Type 0 = λ caller made. IsAsked {K = K} pseudokey_of hashing (IsFirstPage start ward_bits old new) (may caller) caller made (Err asked) in
    let walked : Asked own (storm_call own (done + 1)) = subst (Asked own) is (subst (λ caller. Asked caller call) same walk) in
    handed_on (λ fault. storm_fault_number fault ≡ ask_fault_number asked) (IsCallerFault {K = K} counted pseudokey_of hashing start ward_bits (may own) own calls)
    (λ fault number. (done + 1, omega arith, within, old, new, asked, walked, number, λ page. reached (asked_page asked (sym number ∙ ap storm_fault_number page)))) result refused

pub keeper_round_more : {K : Type 0} (may : ℕ → Bool → Type 0) (pseudokey_of : K → List ℕ → ℕ) (ward done merges : ℕ) (passed : Bool) → AreKeeperRounds pseudokey_of ward may done → may (done + 1) passed → passed ≡ true → IsKeeperRound pseudokey_of ward merges
    → AreKeeperRounds pseudokey_of ward may (done + 1)
keeper_round_more {K} may pseudokey_of ward done merges passed so_far says true_is round = (
  so_far.0 ++ merges ∷ [],
  one_more (λ place made. may (place + 1) true × IsKeeperRound {K = K} pseudokey_of ward made) done so_far.0 merges (so_far.0 ++ merges ∷ []) so_far.1 (subst (may (done + 1)) true_is says, round) refl,
)

pub courier_round_more : {K : Type 0} (pseudokey_of : K → List ℕ → ℕ) (may : ℕ → Bool → Type 0) (done : ℕ) (old between new : Additions) (cursors at lasts : List ℕ) (passed : Bool) → AreCourierRounds {K = K} pseudokey_of may done old cursors between at → may (done + 1) passed
    → passed ≡ true → IsCourierRound {K = K} pseudokey_of between at new lasts → AreCourierRounds {K = K} pseudokey_of may (done + 1) old cursors new lasts
courier_round_more {K} pseudokey_of may done old between new cursors at lasts passed so_far says true_is round =
    let next : suc done ≡ done + 1 = omega arith in
    subst (λ rounds. AreCourierRounds {K = K} pseudokey_of may rounds old cursors new lasts) next (between, at, so_far, subst (may (done + 1)) true_is says, round)
