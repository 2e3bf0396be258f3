-- The headline: what holds of every run of a world.
use Rattle.std.specs.Prelude.{◌≡◌, ◌≢◌, ◌↔◌, ℕ, Bool, List, map, Some, Ok, Contains, All}
use Rattle.std.specs.FinMap.{entries}
use Rattle.exh_notice.specs.declared.entry.Entry.{Entry}
use Rattle.exh_table.specs.Directory.{IsName}
use Rattle.exh_table.specs.Leaves.{ward_leaves}
use Rattle.exh_table.specs.Table.{TableMap, IsTableOf}
use Rattle.exh_table.specs.TableOrder.{IsTableUpTo}
use Rattle.exh_prefix.specs.Leading.{ward_prefix}
use Rattle.exh_calls.specs.History.{IsHistory, map_left}
use Rattle.exh_world.specs.WorldRun.{Moment, IsRun, Told, known_by, known_at_end, Answered, answered_in, journal_entry_of}
use Rattle.exh_world.specs.World.{WorldState, numbered, map_in}
use Rattle.exh_walk.specs.declared.event.Event.TheVariants.{Combine}
use Rattle.exh_walk.specs.declared.outcome.Outcome.TheVariants.{Hopped, Joined}
use Rattle.exh_ward.specs.declared.hop.Hop.TheVariants.{Stray}
use Rattle.exh_walk.specs.declared.turn.Turn.{Turn}

-- what a copy has taken over the turns
abbrev pub taken_by : {K : Type 0} → WorldState K → List Turn → ℕ → Told → Type 0
taken_by world turns copy taken = numbered (known_at_end (entries world.start) (known_by world) turns).copies copy ≡ Some taken

-- the sets have the same members, in whatever order and however often
abbrev pub IsSameSet : Told → Told → Type 0
IsSameSet one other = (prefix : List Bool) (entry : Entry) → Contains one (prefix, entry) ↔ Contains other (prefix, entry)

-- ---- equal copies

-- each copy's table is the table of the set that the copy has taken
abbrev pub AreTablesOfTaken : {K : Type 0} → WorldState K → List Turn → WorldState K → Type 0
AreTablesOfTaken start turns end = (copy : ℕ) (table : TableMap) → numbered end.copies copy ≡ Some table
    → (taken : Told) × taken_by start turns copy taken × IsTableOf taken table

-- so copies that have taken the same are equal
abbrev pub AreEqualCopies : {K : Type 0} → WorldState K → List Turn → WorldState K → Type 0
AreEqualCopies start turns end = (one other : ℕ) (table twin : TableMap) (taken taken_too : Told)
    → numbered end.copies one ≡ Some table → numbered end.copies other ≡ Some twin
    → taken_by start turns one taken → taken_by start turns other taken_too → IsSameSet taken taken_too → table ≡ twin

-- ---- combining is the least upper bound

-- the table is the least that is at least both
pub record IsLeastUpperBound (one other join : TableMap) : Type 0 where
  pub above_one : IsTableUpTo one join
  pub above_other : IsTableUpTo other join
  pub least : (table : TableMap) → IsTableUpTo one table → IsTableUpTo other table → IsTableUpTo join table

-- a combine leaves the copy at the least upper bound of its table and the sent one
pub record IsCombined {K : Type 0} (moment : Moment K) (copy table : ℕ) : Type 0 where
  pub own : TableMap
  pub there : numbered moment.before.copies copy ≡ Some own
  pub other : TableMap
  pub sent : numbered moment.before.sent table ≡ Some other
  pub joined : TableMap
  pub left : numbered moment.after.copies copy ≡ Some joined
  pub bound : IsLeastUpperBound own other joined

abbrev pub CombinesLeast : {K : Type 0} → Moment K → Type 0
CombinesLeast moment = (copy table : ℕ) → moment.turn.event ≡ Combine copy table → moment.turn.result ≡ Ok Joined → IsCombined moment copy table

-- ---- the directory's page

-- the page has the prefix that the directory names for the call's pseudokey, the directory being the ward's leaves after the changes before the hop
abbrev pub IsNamed : TableMap → ℕ → Answered → Type 0
IsNamed start ward_bits answered = IsName (ward_leaves start (ward_prefix ward_bits answered.request.ward) answered.changes) answered.request.pseudokey answered.prefix

-- ---- one map

-- the calls and replies are a run of the map machine from the map at the start, and the map at the end is where that run ends
pub record IsOneMaps {K : Type 0} (pseudokey_of : K → List ℕ → ℕ) (start : WorldState K) (moments : List (Moment K)) (end : WorldState K) : Type 0 where
  pub replies : IsHistory start.cap (pseudokey_of start.keyer) (map_in start) (map journal_entry_of (answered_in moments))
  pub left : map_in end ≡ map_left start.cap (pseudokey_of start.keyer) (map_in start) (map journal_entry_of (answered_in moments))

-- ---- no hop strays

abbrev pub DoesNotStray : {K : Type 0} → Moment K → Type 0
DoesNotStray moment = (ward : ℕ) → moment.turn.result ≢ Ok (Hopped ward Stray)

-- ---- all of it

pub record IsHeadline {K : Type 0} (pseudokey_of : K → List ℕ → ℕ) (start : WorldState K) (turns : List Turn) (end : WorldState K) : Type 0 where
  pub moments : List (Moment K)
  pub turns_are : map (λ moment. moment.turn) moments ≡ turns
  pub run : IsRun pseudokey_of start moments end
  pub tables : AreTablesOfTaken start turns end
  pub equal : AreEqualCopies start turns end
  pub combined : All CombinesLeast moments
  pub named : All (IsNamed start.start start.ward_bits) (answered_in moments)
  pub one_map : IsOneMaps pseudokey_of start moments end
  pub no_stray : All DoesNotStray moments
