-- What is known of a call: where it begins, and of a ward behind its lock that each step is one that some sound ward makes.
use Rattle.std.specs.Prelude.{◌≡◌, ◌⊎◌, ℕ, Bool, List, Result, Ok, Err}
use Rattle.exh_prefix.specs.Prefix.{Begins}
use Rattle.exh_calls.specs.Call.{key_of}
use Rattle.exh_calls.specs.declared.call.Call.{Call}
use Rattle.exh_calls.specs.declared.reply.Reply.{Reply}
use Rattle.exh_ward.specs.declared.hop.Hop.TheVariants.{Stray}
use Rattle.exh_ward.specs.WardState.{WardState, IsSoundWard, own_prefix}
use Rattle.exh_walk.specs.WardRun.{WardEvent, HopAt}
use Rattle.exh_walk.specs.declared.ask_fault.AskFault.{AskFault}
use Rattle.exh_walk.specs.declared.ask_fault.AskFault.TheVariants.{Memory}
use Rattle.exh_walk.specs.CallerWalk.{IsWalked}
use Rattle.exh_walk.specs.WardStep.{IsWardStep}
use Rattle.exh_copy.specs.Additions.{Held, table_after}
use Rattle.exh_table.specs.Table.{TableMap}
use Rattle.exh_table.specs.TableWalk.{walk_of}

-- a hop that is astray, since the ward doesn't cover the call's key
abbrev pub IsPassedBy : {K : Type 0} → (K → List ℕ → ℕ) → WardState K → WardEvent → Type 0
IsPassedBy pseudokey_of ward (HopAt at client call (Ok Stray)) = ¬ Begins (own_prefix ward) (pseudokey_of ward.keyer (key_of call))
IsPassedBy pseudokey_of ward event = ⊥

-- some sound ward answers so: by a step of its own, or since it is passed by
abbrev pub IsSomeWardsStep : {K : Type 0} → (K → List ℕ → ℕ) → WardEvent → Type 0
IsSomeWardsStep {K} pseudokey_of event = (old new : WardState K) × IsSoundWard pseudokey_of old × (IsWardStep pseudokey_of old event new ⊎ IsPassedBy pseudokey_of old event)

-- a walk of which that is known of each step
abbrev pub IsLockedWalk : {K : Type 0} → (K → List ℕ → ℕ) → (ℕ → Bool → Type 0) → ℕ → ℕ → Call → ℕ → Result Reply AskFault → Type 0
IsLockedWalk {K} pseudokey_of may at client call pseudokey result =
    IsWalked {S = Unit {0}} (λ old event new. IsSomeWardsStep {K = K} pseudokey_of event) may tt at client call pseudokey result tt

-- where a call of a pseudokey begins, by a look at a copy of this start table and these ward bits: at the page that the look names, by the additions that the
-- reader then holds, or at page 0 where it names none, which leaves what the reader holds
abbrev pub IsFirstPage : TableMap → ℕ → Held → Held → ℕ → ℕ → Type 0
IsFirstPage start ward_bits old new pseudokey at =
    (at ≡ (walk_of (table_after start new.additions) ward_bits pseudokey).page) ⊎ ((at ≡ 0) × (new ≡ old))

-- a call that was asked, in a file that hashes so: there was no room for its entry, or it was walked from a page where it may begin, by steps of sound wards, each
-- of them what was to come in the walk of this client's call, and before each hop the gate may have said yes
abbrev pub IsAsked : {K : Type 0} → (K → List ℕ → ℕ) → (List ℕ → ℕ) → (ℕ → ℕ → Type 0) → (ℕ → Bool → Type 0) → ℕ → Call → Result Reply AskFault → Type 0
IsAsked {K} pseudokey_of hashing begins may client call result =
    (result ≡ Err Memory) ⊎ ((at : ℕ) × begins (hashing (key_of call)) at × IsLockedWalk {K = K} pseudokey_of may at client call (hashing (key_of call)) result)
