-- Refusals of a ward: their numbers, where each comes, and what a page's store refuses.
use Rattle.std.specs.Prelude.{◌≡◌, ⊤, ℕ, ◌+◌, ◌-◌, ◌^◌, ◌<◌, ◌≤◌, Bool, List, length, Option, Result, Err}
use Rattle.exh_prefix.specs.declared.prefix.TheConstants.{LIMIT}
use Rattle.exh_page.specs.declared.page.Page.{Page as PageType}
use Rattle.exh_page.specs.declared.page.Page.TheVariants.{Live, Forward}
use Rattle.exh_page.specs.declared.record.Record.{Record}
use Rattle.exh_page.specs.Page.{IsLive}
use Rattle.exh_legal.specs.ChangeNumbers.{number_at}
use Rattle.exh_legal.specs.Table.{TableMap}
use Rattle.exh_legal.specs.Pages.{IsAt}
use Rattle.exh_stores.specs.declared.pages_fault.PagesFault.{PagesFault}
use Rattle.exh_stores.specs.declared.pages_fault.PagesFault.TheVariants.{Memory as StoreMemory, Page as StorePage}
use Rattle.exh_legal.specs.declared.halves_fault.HalvesFault.{HalvesFault}
use Rattle.exh_legal.specs.declared.halves_fault.HalvesFault.TheVariants.{NotLive as SendsOn, NotFull as HasRoom, AtLimit as TooDeep, NoBuddy as NoLeftHalf, BuddySplit as NotBeside, TooMany as Together}
use Rattle.exh_ward.specs.MergeStep.{IsLeftChild, IsBuddy, HasNoBuddy}
use Rattle.exh_ward.specs.WardState.{WardState}
use Rattle.exh_ward.specs.declared.ward_fault.WardFault.{WardFault}
use Rattle.exh_ward.specs.declared.ward_fault.WardFault.TheVariants.{NoPage, NotLive, NotFull, AtLimit, NoBuddy, BuddySplit, TooMany, Worn, Memory, Page}

abbrev pub ward_fault_number : WardFault → ℕ
ward_fault_number NoPage = 1
ward_fault_number NotLive = 3
ward_fault_number NotFull = 4
ward_fault_number AtLimit = 5
ward_fault_number NoBuddy = 6
ward_fault_number BuddySplit = 7
ward_fault_number (TooMany sum) = 8
ward_fault_number Worn = 9
ward_fault_number Memory = 10
ward_fault_number Page = 11

-- ---- what a page's store refuses

-- the refusal that a store's becomes
abbrev pub fault_of : PagesFault → WardFault
fault_of StoreMemory = Memory
fault_of StorePage = Page

-- the refusal that one of a page's halves becomes
abbrev pub fault_of_halves : HalvesFault → WardFault
fault_of_halves SendsOn = NotLive
fault_of_halves HasRoom = NotFull
fault_of_halves TooDeep = AtLimit
fault_of_halves NoLeftHalf = NoBuddy
fault_of_halves NotBeside = BuddySplit
fault_of_halves (Together sum) = TooMany sum

-- the refusals that may come at any point
abbrev pub IsStoreFault : WardFault → Type 0
IsStoreFault Memory = ⊤
IsStoreFault Page = ⊤
IsStoreFault fault = ⊥

-- the refusals of a table that is told of a change at a prefix: the number there is the greatest, or memory is wanting
abbrev pub IsTakingFault : TableMap → List Bool → WardFault → Type 0
IsTakingFault table prefix Worn = number_at table prefix ≡ 2 ^ 32 - 1
IsTakingFault table prefix Memory = ⊤
IsTakingFault table prefix fault = ⊥

-- and of a ward that changes pages and is told of it
abbrev pub IsTellingFault : {K : Type 0} → WardState K → List Bool → WardFault → Type 0
IsTellingFault ward prefix Page = ⊤
IsTellingFault ward prefix fault = IsTakingFault ward.table prefix fault

-- a page fault is answered only where the count of failures rises, and that rises nowhere else
abbrev pub CountsFailures : {T : Type 0} → Result T WardFault → ℕ → ℕ → Type 0
CountsFailures (Err Page) old new = old < new
CountsFailures result old new = new ≡ old

-- ---- where each comes

-- the refusals of reading a page
abbrev pub PageRefused : List PageType → ℕ → WardFault → Type 0
PageRefused pages number NoPage = length pages ≤ number
PageRefused pages number Memory = ⊤
PageRefused pages number Page = ⊤
PageRefused pages number fault = ⊥

-- the refusal of a split that a page fits, the first in their order
abbrev pub SplitRefusedAt : ℕ → PageType → WardFault → Type 0
SplitRefusedAt cap page NoPage = ⊥
SplitRefusedAt cap page NotLive = IsLive page → ⊥
SplitRefusedAt cap (Live prefix link records) NotFull = length records < cap
SplitRefusedAt cap (Forward low target) NotFull = ⊥
SplitRefusedAt cap (Live prefix link records) AtLimit = (cap ≤ length records) × (LIMIT ≤ length prefix)
SplitRefusedAt cap (Forward low target) AtLimit = ⊥
SplitRefusedAt cap page Memory = ⊤
SplitRefusedAt cap page fault = ⊥

abbrev pub SplitRefused : ℕ → List PageType → ℕ → WardFault → Type 0
SplitRefused cap pages at NoPage = length pages ≤ at
SplitRefused cap pages at Memory = ⊤
SplitRefused cap pages at Page = ⊤
SplitRefused cap pages at fault = (page : PageType) × IsAt pages at page × SplitRefusedAt cap page fault

-- the refusals of a merge, each where it comes, which is where those before it in this order don't; memory and a page out of reach at any point
abbrev pub MergeRefused : {K : Type 0} → WardState K → ℕ → WardFault → Type 0
MergeRefused ward at NoPage = length ward.pages ≤ at
MergeRefused ward at NotLive = (low target : ℕ) × IsAt ward.pages at (Forward low target)
MergeRefused ward at NoBuddy = (prefix : List Bool) × (link : Option ℕ) × (records : List Record) × IsAt ward.pages at (Live prefix link records) × HasNoBuddy ward prefix
MergeRefused ward at BuddySplit = (prefix : List Bool) × (records : List Record) × IsLeftChild ward at prefix records × ((others : List Record) → IsBuddy ward prefix others → ⊥)
MergeRefused ward at (TooMany sum) = (prefix : List Bool) × (records others : List Record) × IsLeftChild ward at prefix records × IsBuddy ward prefix others × (sum ≡ length records + length others) × (ward.cap < sum)
MergeRefused ward at Worn = (prefix : List Bool) × (records others : List Record) × IsLeftChild ward at prefix records × IsBuddy ward prefix others × (length records + length others ≤ ward.cap) × (number_at ward.table prefix ≡ 2 ^ 32 - 1)
MergeRefused ward at Memory = ⊤
MergeRefused ward at Page = ⊤
MergeRefused ward at fault = ⊥
