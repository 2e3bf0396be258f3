-- What the calls of a storm's callers and the rounds of its keepers and couriers come to.
use Rattle.std.specs.Prelude.{◌≡◌, ⊤, ℕ, zero, suc, ◌+◌, ◌≤◌, Bool, true, false, List, [], ◌++◌, map, Err}
use Rattle.exh_table.specs.Table.{TableMap}
use Rattle.exh_notice.specs.declared.notice.Notice.{Notice}
use Rattle.exh_copy.specs.Additions.{Additions, Held as HeldByCopy}
use Rattle.exh_copy.specs.declared.addition.Addition.TheVariants.{Take}
use Rattle.exh_walk.specs.CallerWalk.{ask_fault_number}
use Rattle.exh_walk.specs.declared.ask_fault.AskFault.{AskFault}
use Rattle.exh_live.specs.Locked.{IsAsked, IsFirstPage}
use Rattle.exh_live.specs.CursorPlaceLemmas.{AreFirst}
use Rattle.exh_live.specs.Rounds.{AreCarried, AreSomeWardsNotices, IsKeeperRound}
use Rattle.exh_live.specs.StormCalls.{storm_call}
use Rattle.exh_live.specs.StormFault.{storm_fault_number}
use Rattle.exh_live.specs.declared.fault.StormFault.{StormFault}
use Rattle.exh_live.specs.declared.fault.StormFault.TheVariants.{Memory, Page, Held, Mismatch, Seats}

-- a caller that was refused so: one of its first so many calls was, which was asked through a copy of this start table and these ward bits, and the numbers
-- of both refusals are the same; a page is out of reach only where one was counted
abbrev pub IsCallerFault : {K : Type 0} → Type 0 → (K → List ℕ → ℕ) → (List ℕ → ℕ) → TableMap → ℕ → (ℕ → Bool → Type 0) → ℕ → ℕ → StormFault → Type 0
IsCallerFault {K} counted pseudokey_of hashing start ward_bits may client calls fault =
    (number : ℕ) × (1 ≤ number) × (number ≤ calls) × (old new : HeldByCopy) × (asked : AskFault)
    × IsAsked {K = K} pseudokey_of hashing (IsFirstPage start ward_bits old new) may client (storm_call client number) (Err asked) × (storm_fault_number fault ≡ ask_fault_number asked)
    × (fault ≡ Page → counted)

-- of the answers that a gate may give at a turn: no at one of the turns from 1 to so many
abbrev pub MayHold : (ℕ → Bool → Type 0) → ℕ → Type 0
MayHold may rounds = (turn : ℕ) × (1 ≤ turn) × (turn ≤ rounds) × may turn false

-- what a keeper may be refused for in so many rounds; a page out of reach only where one was counted
abbrev pub IsKeeperFault : Type 0 → (ℕ → Bool → Type 0) → ℕ → StormFault → Type 0
IsKeeperFault counted may rounds Held = MayHold may rounds
IsKeeperFault counted may rounds Memory = ⊤
IsKeeperFault counted may rounds Page = counted
IsKeeperFault counted may rounds Mismatch = ⊥
IsKeeperFault counted may rounds Seats = ⊥

-- what a courier may be refused for in so many rounds
abbrev pub IsCourierFault : (ℕ → Bool → Type 0) → ℕ → StormFault → Type 0
IsCourierFault may rounds Held = MayHold may rounds
IsCourierFault may rounds Memory = ⊤
IsCourierFault may rounds Page = ⊥
IsCourierFault may rounds Mismatch = ⊥
IsCourierFault may rounds Seats = ⊥

-- so many rounds of the keeper of a ward, before each of which the gate may say yes at its turn, from 1 on; each made some merges
abbrev pub AreKeeperRounds : {K : Type 0} → (K → List ℕ → ℕ) → ℕ → (ℕ → Bool → Type 0) → ℕ → Type 0
AreKeeperRounds {K} pseudokey_of ward may rounds = (made : List ℕ) × AreFirst (λ round merges. may (round + 1) true × IsKeeperRound {K = K} pseudokey_of ward merges) rounds made

-- a courier's round: the copy takes notices ward by ward, each ward's own from its old cursor to its new one, and all that is pending is published
abbrev pub IsCourierRound : {K : Type 0} → (K → List ℕ → ℕ) → Additions → List ℕ → Additions → List ℕ → Type 0
IsCourierRound {K} pseudokey_of old cursors new lasts =
    (notices : List Notice) × AreCarried 0 cursors notices lasts × (new ≡ record old { published = old.published ++ old.pending ++ map Take notices; pending = [] }) × AreSomeWardsNotices {K = K} pseudokey_of notices

-- so many of them, one after the other, before each of which the gate may say yes at its turn, from 1 on
abbrev pub AreCourierRounds : {K : Type 0} → (K → List ℕ → ℕ) → (ℕ → Bool → Type 0) → ℕ → Additions → List ℕ → Additions → List ℕ → Type 0
AreCourierRounds {K} pseudokey_of may zero old cursors new lasts = (new ≡ old) × (lasts ≡ cursors)
AreCourierRounds {K} pseudokey_of may (suc rounds) old cursors new lasts =
    (between : Additions) × (at : List ℕ) × AreCourierRounds {K = K} pseudokey_of may rounds old cursors between at × may (rounds + 1) true × IsCourierRound {K = K} pseudokey_of between at new lasts
