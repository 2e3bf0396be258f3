-- Runs of one ward: hops, splits and merges, one after another.
use Rattle.std.specs.Prelude.{◌≡◌, ℕ, List, [], ◌∷◌, flat_map, Result, Ok}
use Rattle.exh_notice.specs.declared.entry.Kind.{Kind}
use Rattle.exh_notice.specs.declared.entry.Kind.TheVariants.{Split, Merge}
use Rattle.exh_notice.specs.declared.notice.Notice.{Notice}
use Rattle.exh_ward.specs.HopTable.{HopOf}
use Rattle.exh_ward.specs.MergeStep.{IsMergeStep}
use Rattle.exh_ward.specs.SplitStep.{IsSplitStep}
use Rattle.exh_ward.specs.WardState.{WardState, LeavesAfter, IsUnchanged}
use Rattle.exh_calls.specs.declared.call.Call.{Call}
use Rattle.exh_ward.specs.declared.hop.Hop.{Hop}
use Rattle.exh_ward.specs.declared.hop.Hop.TheVariants.{Done, Moved}
use Rattle.exh_calls.specs.declared.journal_entry.JournalEntry.{JournalEntry}
use Rattle.exh_ward.specs.declared.ward_fault.WardFault.{WardFault}

-- what a ward was asked, at a page, and what came of it
pub data WardEvent : Type 0 where
  HopAt : (at client : ℕ) → (call : Call) → (result : Result Hop WardFault) → WardEvent
  SplitAt : (at : ℕ) → (result : Result Notice WardFault) → WardEvent
  MergeAt : (at : ℕ) → (result : Result Notice WardFault) → WardEvent

-- the wards before and after an event; whatever it was refused for, it then left all but the count of failures as it was
abbrev pub WardStep : {K : Type 0} → (K → List ℕ → ℕ) → WardState K → WardEvent → WardState K → Type 0
WardStep pseudokey_of old (HopAt at client call (Ok hop)) new =
    HopOf old.cap (pseudokey_of old.keyer) old.pages at call hop × LeavesAfter pseudokey_of old at client call hop new
WardStep pseudokey_of old (SplitAt at (Ok notice)) new = IsSplitStep old at notice new
WardStep pseudokey_of old (MergeAt at (Ok notice)) new = IsMergeStep old at notice new
WardStep pseudokey_of old event new = IsUnchanged old new

-- an event, with the wards before and after it
pub record WardMoment (K : Type 0) : Type 0 where
  pub before : WardState K
  pub event : WardEvent
  pub after : WardState K

-- the moments lead from one ward to another, by a step each
abbrev pub IsWardRun : {K : Type 0} → (K → List ℕ → ℕ) → WardState K → List (WardMoment K) → WardState K → Type 0
IsWardRun pseudokey_of start [] end = end ≡ start
IsWardRun pseudokey_of start (moment ∷ moments) end =
    (moment.before ≡ start) × WardStep pseudokey_of start moment.event moment.after × IsWardRun pseudokey_of moment.after moments end

-- ---- what it answers, tells and names

-- the entry of an answered call
abbrev pub answer_of : WardEvent → List JournalEntry
answer_of (HopAt at client call (Ok (Done reply))) = record { client = client; call = call; reply = reply } ∷ []
answer_of event = []

-- the notice of a split or merge
abbrev pub changes_by : WardEvent → List Notice
changes_by (SplitAt at (Ok notice)) = notice ∷ []
changes_by (MergeAt at (Ok notice)) = notice ∷ []
changes_by event = []

abbrev pub answers_in : {K : Type 0} → List (WardMoment K) → List JournalEntry
answers_in moments = flat_map (λ moment. answer_of moment.event) moments

abbrev pub changes_over : {K : Type 0} → List (WardMoment K) → List Notice
changes_over moments = flat_map (λ moment. changes_by moment.event) moments

abbrev pub right_page : Kind → List ℕ
right_page (Split right) = right ∷ []
right_page Merge = []

-- the page numbers that an event names to its caller: where a hop moves on to, and a split's right page
abbrev pub named_by : WardEvent → List ℕ
named_by (HopAt at client call (Ok (Moved next))) = next ∷ []
named_by (SplitAt at (Ok notice)) = right_page notice.kind
named_by event = []
