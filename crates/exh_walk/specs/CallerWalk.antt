-- The caller's walk: hops of one call, and splits of the pages that are full for it, over anything that can hop and split.
use Rattle.std.specs.Prelude.{◌≡◌, ◌⊎◌, ⊤, ℕ, suc, ◌≤◌, nat_lt, Bool, true, false, ◌&&◌, if◌then◌else◌, List, [], ◌∷◌, ◌++◌, length, Option, Some, None, Result, Ok, Err}
use Rattle.exh_prefix.specs.Prefix.{begins}
use Rattle.exh_prefix.specs.declared.prefix.TheConstants.{LIMIT}
use Rattle.exh_notice.specs.declared.entry.Kind.{Kind}
use Rattle.exh_notice.specs.declared.entry.Kind.TheVariants.{Split, Merge}
use Rattle.exh_notice.specs.declared.notice.Notice.{Notice}
use Rattle.exh_calls.specs.declared.call.Call.{Call}
use Rattle.exh_calls.specs.declared.reply.Reply.{Reply}
use Rattle.exh_ward.specs.declared.hop.Hop.{Hop}
use Rattle.exh_ward.specs.declared.hop.Hop.TheVariants.{Done, Moved, MustSplit, Stray}
use Rattle.exh_ward.specs.declared.ward_fault.WardFault.{WardFault}
use Rattle.exh_ward.specs.declared.ward_fault.WardFault.TheVariants.{Memory, Page}
use Rattle.exh_walk.specs.WardRun.{WardEvent, HopAt, SplitAt, MergeAt}
use Rattle.exh_walk.specs.declared.ask_fault.AskFault.{AskFault}
use Rattle.exh_walk.specs.declared.ask_fault.AskFault.TheVariants.{Held, Memory as AskMemory, Page as AskPage}
use Rattle.exh_walk.specs.declared.walk.TheConstants.{TURN_LIMIT}

abbrev pub ask_fault_number : AskFault → ℕ
ask_fault_number Held = 50
ask_fault_number AskMemory = 10
ask_fault_number AskPage = 11

-- the refusal of the walk that one of a hop or a split is, if it is one
abbrev pub fault_at : WardFault → Option AskFault
fault_at Memory = Some AskMemory
fault_at Page = Some AskPage
fault_at fault = None

-- ---- what can hop and split

-- steps of any kind, one after the other, the latest first
abbrev pub IsRun : {S : Type 0} → (S → WardEvent → S → Type 0) → S → List WardEvent → S → Type 0
IsRun step old [] new = new ≡ old
IsRun {S} step old (event ∷ earlier) new = (between : S) × IsRun step old earlier between × step between event new

-- each call that may be asked for before may be asked for after
abbrev pub ServesOn : {S : Type 0} → (S → Call → ℕ → Type 0) → S → S → Type 0
ServesOn serves old new = (call : Call) (pseudokey : ℕ) → serves old call pseudokey → serves new call pseudokey

-- a call may be asked for, by its pseudokey
abbrev pub MayBeAsked : {S : Type 0} → (S → Call → ℕ → Type 0) → S → Call → Type 0
MayBeAsked serves steps call = (pseudokey : ℕ) × serves steps call pseudokey

-- ---- what a walk consists of

-- what is to come in a walk: a hop at a page, a split of a page, or nothing, since it has come to this
pub data Due : Type 0 where
  HopDue : (page : ℕ) → Due
  SplitDue : (page : ℕ) → Due
  Over : (result : Result Reply AskFault) → Due

-- after a refusal it is over, unless that says that another has changed the page
abbrev pub after_fault : ℕ → Option AskFault → Due
after_fault page (Some fault) = Over (Err fault)
after_fault page None = HopDue page

-- whether the right child of a prefix, which one of LIMIT bits hasn't, begins a pseudokey
abbrev pub right_begins : List Bool → ℕ → Bool
right_begins prefix pseudokey = nat_lt (length prefix) LIMIT && begins (prefix ++ true ∷ []) pseudokey

-- of a page that was split the half of a pseudokey: the right page where the right child of its prefix begins it, else the page itself
abbrev pub half_at : ℕ → ℕ → List Bool → Kind → ℕ
half_at pseudokey page prefix (Split right) = if right_begins prefix pseudokey then right else page
half_at pseudokey page prefix Merge = page

abbrev pub half_of : ℕ → ℕ → Notice → ℕ
half_of pseudokey page notice = half_at pseudokey page notice.prefix notice.kind

-- moved: there; full: a split of the page, and at the half of the call's pseudokey; astray: at page 0
abbrev pub due_after : ℕ → WardEvent → Due
due_after pseudokey (HopAt page client call (Ok (Done reply))) = Over (Ok reply)
due_after pseudokey (HopAt page client call (Ok (Moved next))) = HopDue next
due_after pseudokey (HopAt page client call (Ok MustSplit)) = SplitDue page
due_after pseudokey (HopAt page client call (Ok Stray)) = HopDue 0
due_after pseudokey (HopAt page client call (Err fault)) = after_fault page (fault_at fault)
due_after pseudokey (SplitAt page (Ok notice)) = HopDue (half_of pseudokey page notice)
due_after pseudokey (SplitAt page (Err fault)) = after_fault page (fault_at fault)
due_after pseudokey (MergeAt page result) = HopDue page

-- what is to come after events, the latest first, of a walk from a page
abbrev pub due_from : ℕ → ℕ → List WardEvent → Due
due_from pseudokey at [] = HopDue at
due_from pseudokey at (event ∷ earlier) = due_after pseudokey event

-- the event is what was to come, whatever came of it: a hop of this call by this client, or a split
abbrev pub IsWhatWasDue : ℕ → Call → Due → WardEvent → Type 0
IsWhatWasDue client call (HopDue page) event = (result : Result Hop WardFault) × (event ≡ HopAt page client call result)
IsWhatWasDue client call (SplitDue page) event = (result : Result Notice WardFault) × (event ≡ SplitAt page result)
IsWhatWasDue client call (Over result) event = ⊥

-- each event is what was to come after those before it
abbrev pub AreDue : ℕ → ℕ → Call → ℕ → List WardEvent → Type 0
AreDue at client call pseudokey [] = ⊤
AreDue at client call pseudokey (event ∷ earlier) = AreDue at client call pseudokey earlier × IsWhatWasDue client call (due_from pseudokey at earlier) event

-- how many hops there are, which is how many turns were passed
abbrev pub hops_in : List WardEvent → ℕ
hops_in [] = 0
hops_in (HopAt page client call result ∷ earlier) = suc (hops_in earlier)
hops_in (SplitAt page result ∷ earlier) = hops_in earlier
hops_in (MergeAt page result ∷ earlier) = hops_in earlier

-- ---- the gate

-- of the answers that a gate may give at a turn: a turn past the limit counts as a no
abbrev pub MaySayNo : (ℕ → Bool → Type 0) → ℕ → Type 0
MaySayNo may turn = (suc TURN_LIMIT ≤ turn) ⊎ may turn false

abbrev pub MaySayYes : (ℕ → Bool → Type 0) → ℕ → Type 0
MaySayYes may turn = (turn ≤ TURN_LIMIT) × may turn true

-- it may say yes at each of the first turns
abbrev pub MayPass : (ℕ → Bool → Type 0) → ℕ → Type 0
MayPass may turns = (turn : ℕ) → 1 ≤ turn → turn ≤ turns → MaySayYes may turn

-- ---- the walk

-- where nothing is to come, that is the result; where a hop is to come, the gate held it back, before that hop's turn
abbrev pub IsEnd : (ℕ → Bool → Type 0) → Due → ℕ → Result Reply AskFault → Type 0
IsEnd may (Over over) turns result = result ≡ over
IsEnd may (HopDue page) turns result = (result ≡ Err Held) × MaySayNo may (suc turns)
IsEnd may (SplitDue page) turns result = ⊥

-- steps one after the other, each what is to come in the walk of a call, whose key has this pseudokey, from a page, and the gate may have said yes before each hop
pub record IsWay {S : Type 0} (step : S → WardEvent → S → Type 0) (may : ℕ → Bool → Type 0) (old : S) (at client : ℕ) (call : Call) (pseudokey : ℕ) (events : List WardEvent) (new : S) : Type 0 where
  pub run : IsRun step old events new
  pub due : AreDue at client call pseudokey events
  pub passed : MayPass may (hops_in events)

-- and so to the end
pub record IsWalked {S : Type 0} (step : S → WardEvent → S → Type 0) (may : ℕ → Bool → Type 0) (old : S) (at client : ℕ) (call : Call) (pseudokey : ℕ) (result : Result Reply AskFault) (new : S) : Type 0 where
  pub events : List WardEvent
  pub way : IsWay step may old at client call pseudokey events new
  pub end : IsEnd may (due_from pseudokey at events) (hops_in events) result

-- so, by the call's pseudokey
abbrev pub IsCallWalked : {S : Type 0} → (S → WardEvent → S → Type 0) → (S → Call → ℕ → Type 0) → (ℕ → Bool → Type 0) → S → ℕ → ℕ → Call → Result Reply AskFault → S → Type 0
IsCallWalked step serves may old at client call result new = (pseudokey : ℕ) × serves old call pseudokey × IsWalked step may old at client call pseudokey result new
