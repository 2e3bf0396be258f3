-- What a caller's walk over a ward by itself keeps.
use Rattle.std.specs.Prelude.{◌≡◌, ◌⊎◌, ℕ, ◌+◌, ◌≤◌, Bool, false, List, [], ◌∷◌, ◌++◌, All, Result, Ok, Err}
use Rattle.exh_notice.specs.declared.notice.Notice.{Notice}
use Rattle.exh_page.specs.declared.page.Page.{Page}
use Rattle.exh_legal.specs.LegalLaws.{IsBelow}
use Rattle.exh_calls.specs.Call.{key_of}
use Rattle.exh_calls.specs.Effect.{sets_new}
use Rattle.exh_calls.specs.declared.call.Call.{Call}
use Rattle.exh_calls.specs.declared.reply.Reply.{Reply}
use Rattle.exh_calls.specs.declared.journal_entry.JournalEntry.{JournalEntry}
use Rattle.exh_ward.specs.declared.hop.Hop.{Hop}
use Rattle.exh_ward.specs.declared.ward_fault.WardFault.{WardFault}
use Rattle.exh_ward.specs.WardState.{WardState, IsSoundWard}
use Rattle.exh_ward.specs.Distance.{IsDistance}
use Rattle.exh_walk.specs.WardRun.{WardEvent, HopAt, SplitAt, WardMoment, IsWardRun}
use Rattle.exh_walk.specs.declared.ask_fault.AskFault.{AskFault}
use Rattle.exh_walk.specs.declared.ask_fault.AskFault.TheVariants.{Held}
use Rattle.exh_walk.specs.CallerWalk.{MaySayNo, MaySayYes}

-- the entry of an answer, and none of a refusal
abbrev pub entries_of : ℕ → Call → Result Reply AskFault → List JournalEntry
entries_of client call (Ok reply) = record { client = client; call = call; reply = reply } ∷ []
entries_of client call (Err fault) = []

-- a hop of the client's call, or a split
abbrev pub IsHopOrSplit : ℕ → Call → WardEvent → Type 0
IsHopOrSplit client call event =
    ((page : ℕ) × (result : Result Hop WardFault) × (event ≡ HopAt page client call result)) ⊎ ((page : ℕ) × (result : Result Notice WardFault) × (event ≡ SplitAt page result))

-- hops of the client's call and splits, and nothing else, lead from one ward to the other; the journal has one entry more at an answer, the caller's call with the reply, and none
-- more at a refusal
pub record IsWardWalked {K : Type 0} (pseudokey_of : K → List ℕ → ℕ) (old : WardState K) (client : ℕ) (call : Call) (result : Result Reply AskFault) (new : WardState K) : Type 0 where
  pub moments : List (WardMoment K)
  pub run : IsWardRun pseudokey_of old moments new
  pub steps : All (λ (moment : WardMoment K). IsHopOrSplit client call moment.event) moments
  pub journal : new.journal ≡ old.journal ++ entries_of client call result
  pub sound : IsSoundWard pseudokey_of new

-- from a page that isn't beyond the key, it is held only where the gate may say no at one of the turns from 1 to the distance and one
abbrev pub IsHeldInTurn : (ℕ → Bool → Type 0) → List Page → ℕ → ℕ → Result Reply AskFault → Type 0
IsHeldInTurn may pages at pseudokey result =
    (distance : ℕ) → IsBelow pages at pseudokey → IsDistance pages at pseudokey distance → result ≡ Err Held → (turn : ℕ) × (1 ≤ turn) × (turn ≤ 1 + distance) × MaySayNo may turn

-- and answered only where it may say yes at each of them
abbrev pub PassesInTurn : (ℕ → Bool → Type 0) → List Page → ℕ → ℕ → Result Reply AskFault → Type 0
PassesInTurn may pages at pseudokey result =
    (distance : ℕ) (reply : Reply) → IsBelow pages at pseudokey → IsDistance pages at pseudokey distance → result ≡ Ok reply → (turn : ℕ) → 1 ≤ turn → turn ≤ 1 + distance → MaySayYes may turn

-- both of a walk of the call, under a gate: a call that gives no new key is held, and answered, in turn
pub record IsWalkOfWard {K : Type 0} (pseudokey_of : K → List ℕ → ℕ) (old : WardState K) (may : ℕ → Bool → Type 0) (at client : ℕ) (call : Call) (result : Result Reply AskFault) (new : WardState K) : Type 0 where
  pub walked : IsWardWalked pseudokey_of old client call result new
  pub held : sets_new call ≡ false → IsHeldInTurn may old.pages at (pseudokey_of old.keyer (key_of call)) result
  pub answered : sets_new call ≡ false → PassesInTurn may old.pages at (pseudokey_of old.keyer (key_of call)) result
