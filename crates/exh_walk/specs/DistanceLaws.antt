-- Laws of distances over changes.
use Rattle.std.specs.Prelude.{◌≡◌, ◌⊎◌, ℕ, suc, ◌+◌, ◌-◌, ◌^◌, ◌<◌, ◌≤◌, Bool, true, List, [], ◌∷◌, ◌++◌, length, map, take, Some, Ok}
use Rattle.std.specs.FinMap.{entries, get}
use Rattle.exh_prefix.specs.Prefix.{IsFront, Begins, low_of}
use Rattle.exh_notice.specs.declared.notice.Notice.{Notice}
use Rattle.exh_table.specs.Table.{TableMap, IsEntryOf, told_by}
use Rattle.exh_table.specs.TableWalk.{split_at, walk_in}
use Rattle.exh_page.specs.declared.page.Page.{Page}
use Rattle.exh_legal.specs.Change.{IsSplit, IsMerge}
use Rattle.exh_legal.specs.Growth.{IsPageOf}
use Rattle.exh_legal.specs.LegalLaws.{IsBelow, IsWard}
use Rattle.exh_legal.specs.Pages.{AreLinked, bare}
use Rattle.exh_calls.specs.Call.{key_of}
use Rattle.exh_calls.specs.declared.call.Call.{Call}
use Rattle.exh_ward.specs.WardState.{WardState, own_prefix}
use Rattle.exh_ward.specs.declared.hop.Hop.TheVariants.{Moved}
use Rattle.exh_ward.specs.Distance.{IsDistance}
use Rattle.exh_walk.specs.RouteLaws.{IsLegalWard}
use Rattle.exh_walk.specs.WardRun.{HopAt, WardEvent, WardMoment, WardStep, IsWardRun, changes_by, changes_over}

-- the page has a distance, and it is at most so much
abbrev pub IsDistanceUpTo : List Page → ℕ → ℕ → ℕ → Type 0
IsDistanceUpTo pages from pseudokey most = (distance : ℕ) × IsDistance pages from pseudokey distance × (distance ≤ most)

-- ---- a change

-- a split or a merge
abbrev pub IsChange : ℕ → List Page → List Page → Type 0
IsChange cap pages new =
    ((at : ℕ) × (prefix : List Bool) × (right : ℕ) × IsSplit cap pages at prefix right new) ⊎ ((at : ℕ) × (prefix : List Bool) × IsMerge cap pages at prefix new)

-- in linked pages, a change raises the distance from any page by at most one
abbrev pub ChangesAddOne : Type 0
ChangesAddOne = (cap : ℕ) (ward : List Bool) (pages new : List Page) (from pseudokey distance : ℕ) → AreLinked ward (bare pages) → IsChange cap pages new
    → IsDistance pages from pseudokey distance → IsDistanceUpTo new from pseudokey (distance + 1)

-- ---- runs

-- a step of a ward adds its changes at most: one for a split or a merge, none for a hop, whatever call it is of, nor for what was refused
abbrev pub StepsAddChanges : {K : Type 0} → (K → List ℕ → ℕ) → Type 0
StepsAddChanges {K} pseudokey_of = (old new : WardState K) (event : WardEvent) (from pseudokey distance : ℕ) → AreLinked (own_prefix old) (bare old.pages) → WardStep pseudokey_of old event new
    → IsDistance old.pages from pseudokey distance → IsDistanceUpTo new.pages from pseudokey (distance + length (changes_by event))

-- the moment is a hop of the pseudokey at a page, which moves on to another
abbrev pub MovesOn : {K : Type 0} → (K → List ℕ → ℕ) → ℕ → ℕ → WardMoment K → ℕ → Type 0
MovesOn pseudokey_of pseudokey from moment next =
    (client : ℕ) × (call : Call) × (moment.event ≡ HopAt from client call (Ok (Moved next))) × (pseudokey_of moment.before.keyer (key_of call) ≡ pseudokey)

-- a request of a pseudokey goes from one page to another over the moments, of which so many are moves of its own; at the others it stands where it stood
abbrev pub Goes : {K : Type 0} → (K → List ℕ → ℕ) → ℕ → ℕ → List (WardMoment K) → ℕ → ℕ → Type 0
Goes pseudokey_of pseudokey from [] to moves = (to ≡ from) × (moves ≡ 0)
Goes pseudokey_of pseudokey from (moment ∷ moments) to moves =
    Goes pseudokey_of pseudokey from moments to moves ⊎ ((next : ℕ) × (left : ℕ) × MovesOn pseudokey_of pseudokey from moment next × (moves ≡ suc left) × Goes pseudokey_of pseudokey next moments to left)

-- where it stands then isn't beyond its key; the distance from there, and the moves that it made, are together at most the distance at first and the changes since
pub record HasGone (changes : ℕ) (end : List Page) (pseudokey to moves distance : ℕ) : Type 0 where
  pub below : IsBelow end to pseudokey
  pub left : ℕ
  pub is_left : IsDistance end to pseudokey left
  pub few : left + moves ≤ distance + changes

-- from a legal ward, over any list of moments
abbrev pub MovesAreBounded : {K : Type 0} → (K → List ℕ → ℕ) → Type 0
MovesAreBounded {K} pseudokey_of = (start : WardState K) (moments : List (WardMoment K)) (end : WardState K) (pseudokey from to moves distance : ℕ)
    → IsLegalWard pseudokey_of start → IsWardRun pseudokey_of start moments end → pseudokey < 2 ^ 64 → Begins (own_prefix start) pseudokey → IsBelow start.pages from pseudokey
    → Goes pseudokey_of pseudokey from moments to moves → IsDistance start.pages from pseudokey distance
    → HasGone (length (changes_over moments)) end.pages pseudokey to moves distance

-- ---- walks

-- in a ward, the table is that of a start table and notices since
abbrev pub IsTableWithin : List Bool → TableMap → List Notice → TableMap → Type 0
IsTableWithin ward start notices table = (prefix : List Bool) → IsFront ward prefix → IsEntryOf (entries start ++ map told_by notices) prefix (get table prefix)

-- the page that a walk of a ward's table names is at the distance 0
abbrev pub WholeTablesNameHomes : Type 0
WholeTablesNameHomes = (cap : ℕ) (pseudo : List ℕ → ℕ) (ward : List Bool) (start : TableMap) (changes : List Notice) (table : TableMap) (pages : List Page) (pseudokey : ℕ)
    → IsWard cap pseudo ward start changes table pages → pseudokey < 2 ^ 64 → Begins ward pseudokey → IsDistance pages (walk_in table ward pseudokey).page pseudokey 0

-- and so is the page that a walk names of any table which is, in the ward, that of the start table and all changes
abbrev pub WholeCopiesNameHomes : Type 0
WholeCopiesNameHomes = (cap : ℕ) (pseudo : List ℕ → ℕ) (ward : List Bool) (start : TableMap) (changes : List Notice) (table : TableMap) (pages : List Page) (copy : TableMap) (pseudokey : ℕ)
    → IsWard cap pseudo ward start changes table pages → IsTableWithin ward start changes table → IsTableWithin ward start changes copy → pseudokey < 2 ^ 64 → Begins ward pseudokey
    → IsDistance pages (walk_in copy ward pseudokey).page pseudokey 0

-- each split of the table in the ward names the page of its right child's low bound
abbrev pub NamesPages : List Bool → List Page → TableMap → Type 0
NamesPages ward pages table = (prefix : List Bool) (right : ℕ) → IsFront ward prefix → split_at table prefix ≡ Some right → IsPageOf pages (low_of (prefix ++ true ∷ [])) right

-- of a table that is the start's and the first m of the changes, a walk names a page whose distance is at most the changes that it lacks
abbrev pub LateTablesAreNear : Type 0
LateTablesAreNear = (cap : ℕ) (pseudo : List ℕ → ℕ) (ward : List Bool) (start : TableMap) (changes : List Notice) (table : TableMap) (pages : List Page) (m : ℕ) (late : TableMap) (pseudokey : ℕ)
    → IsWard cap pseudo ward start changes table pages → IsTableWithin ward start changes table → m ≤ length changes → IsTableWithin ward start (take m changes) late → NamesPages ward pages late
    → pseudokey < 2 ^ 64 → Begins ward pseudokey → IsDistanceUpTo pages (walk_in late ward pseudokey).page pseudokey (length changes - m)
