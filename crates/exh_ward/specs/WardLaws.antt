-- Laws of the hop table, of splits and merges, and of histories, that the crates above cite.
use Rattle.std.specs.Prelude.{◌≡◌, ◌⊎◌, ℕ, ◌<◌, ◌^◌, Bool, List, Result, Ok, Err}
use Rattle.exh_prefix.specs.Prefix.{Begins}
use Rattle.exh_notice.specs.declared.notice.Notice.{Notice}
use Rattle.exh_page.specs.declared.page.Page.{Page}
use Rattle.exh_page.specs.PageLaws.{AreOfWords}
use Rattle.exh_calls.specs.Call.{key_of}
use Rattle.exh_calls.specs.MapMachine.{map_after}
use Rattle.exh_ward.specs.HopTable.{HopOf, hop_of, pages_after}
use Rattle.exh_ward.specs.MergeFunction.{merge_of, ward_after_merge}
use Rattle.exh_ward.specs.MergeStep.{IsMergeStep}
use Rattle.exh_ward.specs.WardFault.{MergeRefused, SplitRefused, IsStoreFault}
use Rattle.exh_legal.specs.Pages.{IsLegal, map_of}
use Rattle.exh_ward.specs.SplitFunction.{split_of, ward_after_split}
use Rattle.exh_ward.specs.SplitStep.{IsSplitStep}
use Rattle.exh_ward.specs.WardState.{WardState, IsSoundWard}
use Rattle.exh_calls.specs.declared.call.Call.{Call}
use Rattle.exh_ward.specs.declared.hop.Hop.{Hop}
use Rattle.exh_ward.specs.declared.hop.Hop.TheVariants.{Done}
use Rattle.exh_calls.specs.declared.reply.Reply.{Reply}
use Rattle.exh_ward.specs.declared.ward_fault.WardFault.{WardFault}

-- a call at a page comes to one outcome at most, whatever the pages
abbrev pub OneHop : Type 0
OneHop = (cap : ℕ) (pseudo : List ℕ → ℕ) (pages : List Page) (at : ℕ) (call : Call) (one other : Hop)
    → HopOf cap pseudo pages at call one → HopOf cap pseudo pages at call other → one ≡ other

-- what the relation says of a hop, the function computes
abbrev pub HopsAreComputed : Type 0
HopsAreComputed = (cap : ℕ) (pseudo : List ℕ → ℕ) (pages : List Page) (at : ℕ) (call : Call) (hop : Hop) → HopOf cap pseudo pages at call hop → hop ≡ hop_of cap pseudo pages at call

-- and in legal pages the relation says what the function computes, so a call has an outcome at each page of its ward
abbrev pub HopsHaveOutcomes : Type 0
HopsHaveOutcomes =
    (cap : ℕ) (pseudo : List ℕ → ℕ) (ward : List Bool) (pages : List Page) (at : ℕ) (call : Call)
    → IsLegal cap pseudo ward pages → pseudo (key_of call) < 2 ^ 64 → Begins ward (pseudo (key_of call)) → HopOf cap pseudo pages at call (hop_of cap pseudo pages at call)

-- a split of a page comes to what the function computes, unless memory is wanting or a page is out of reach
pub record IsSplitComputed {K : Type 0} (ward : WardState K) (at : ℕ) : Type 0 where
  pub refused : (fault : WardFault) → SplitRefused ward.cap ward.pages at fault → IsStoreFault fault ⊎ (split_of ward at ≡ Err fault)
  pub split : (notice : Notice) (new : WardState K) → IsSplitStep ward at notice new → (split_of ward at ≡ Ok notice) × (new ≡ ward_after_split ward at)

abbrev pub SplitsAreComputed : {K : Type 0} → (K → List ℕ → ℕ) → Type 0
SplitsAreComputed {K} pseudokey_of = (ward : WardState K) (at : ℕ) → IsSoundWard pseudokey_of ward → IsSplitComputed ward at

-- so does a merge, whose notice has a number of 32 bits
pub record IsMergeComputed {K : Type 0} (ward : WardState K) (at : ℕ) : Type 0 where
  pub refused : (fault : WardFault) → MergeRefused ward at fault → IsStoreFault fault ⊎ (merge_of ward at ≡ Err fault)
  pub merged : (notice : Notice) (new : WardState K) → IsMergeStep ward at notice new → notice.number < 2 ^ 32 → (merge_of ward at ≡ Ok notice) × (new ≡ ward_after_merge ward at)

abbrev pub MergesAreComputed : {K : Type 0} → (K → List ℕ → ℕ) → Type 0
MergesAreComputed {K} pseudokey_of = (ward : WardState K) (at : ℕ) → IsSoundWard pseudokey_of ward → IsMergeComputed ward at

-- and in a sound ward the relations say what the functions compute, so a split or merge of a page comes to an outcome
abbrev pub IsSplitOutcome : {K : Type 0} → WardState K → ℕ → Result Notice WardFault → WardState K → Type 0
IsSplitOutcome ward at (Ok notice) new = IsSplitStep ward at notice new
IsSplitOutcome ward at (Err fault) new = SplitRefused ward.cap ward.pages at fault × (new ≡ ward)

abbrev pub SplitsHaveOutcomes : {K : Type 0} → (K → List ℕ → ℕ) → Type 0
SplitsHaveOutcomes {K} pseudokey_of = (ward : WardState K) (at : ℕ) → IsSoundWard pseudokey_of ward → IsSplitOutcome ward at (split_of ward at) (ward_after_split ward at)

abbrev pub IsMergeOutcome : {K : Type 0} → WardState K → ℕ → Result Notice WardFault → WardState K → Type 0
IsMergeOutcome ward at (Ok notice) new = IsMergeStep ward at notice new
IsMergeOutcome ward at (Err fault) new = MergeRefused ward at fault × (new ≡ ward)

abbrev pub MergesHaveOutcomes : {K : Type 0} → (K → List ℕ → ℕ) → Type 0
MergesHaveOutcomes {K} pseudokey_of = (ward : WardState K) (at : ℕ)
    → AreOfWords (pseudokey_of ward.keyer) → IsSoundWard pseudokey_of ward → IsMergeOutcome ward at (merge_of ward at) (ward_after_merge ward at)

-- the pages after an answer are legal, and hold the map machine's map
pub record IsLegalAnswer (cap : ℕ) (pseudo : List ℕ → ℕ) (ward : List Bool) (pages : List Page) (call : Call) (new : List Page) : Type 0 where
  pub legal : IsLegal cap pseudo ward new
  pub map : map_of new ≡ map_after cap pseudo (map_of pages) call

abbrev pub AnswersKeepLegal : Type 0
AnswersKeepLegal =
    (cap : ℕ) (pseudo : List ℕ → ℕ) (ward : List Bool) (pages : List Page) (at : ℕ) (call : Call) (reply : Reply)
    → ((key : List ℕ) → pseudo key < 2 ^ 64) → IsLegal cap pseudo ward pages → HopOf cap pseudo pages at call (Done reply)
    → IsLegalAnswer cap pseudo ward pages call (pages_after cap pseudo pages at call)
