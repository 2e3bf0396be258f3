-- Laws of runs of one ward.
use Rattle.std.specs.Prelude.{◌≡◌, ℕ, suc, ◌+◌, ◌^◌, ◌<◌, ◌≤◌, Bool, List, [], ◌++◌, All}
use Rattle.exh_prefix.specs.declared.prefix.TheConstants.{LIMIT}
use Rattle.exh_prefix.specs.Prefix.{Begins}
use Rattle.exh_page.specs.declared.page.Page.{Page}
use Rattle.exh_page.specs.Page.{low_bound}
use Rattle.exh_legal.specs.LegalLaws.{KeepsPlaces, IsBelow, IsWard}
use Rattle.exh_legal.specs.Pages.{IsAt, AreLinked, bare, map_of}
use Rattle.exh_calls.specs.Call.{key_of}
use Rattle.exh_calls.specs.History.{IsHistory, map_left}
use Rattle.exh_ward.specs.HopTable.{HopOf, Overflows}
use Rattle.exh_calls.specs.MapMachine.{reply_of}
use Rattle.exh_ward.specs.WardState.{WardState, IsSoundWard, own_prefix}
use Rattle.exh_calls.specs.declared.call.Call.{Call}
use Rattle.exh_calls.specs.declared.call.Call.TheVariants.{Get}
use Rattle.exh_ward.specs.declared.hop.Hop.TheVariants.{Done, Moved, MustSplit}
use Rattle.exh_ward.specs.Distance.{IsDistance, live_pages}
use Rattle.exh_walk.specs.DistanceFunction.{distance_of}
use Rattle.exh_walk.specs.WardMoves.{AreMoves, GoesHome}
use Rattle.exh_walk.specs.WardRun.{WardMoment, IsWardRun, answer_of, answers_in, changes_over, named_by}

-- ---- one map

-- the pages are a legal ward for the start table and all notices since
abbrev pub IsLegalWard : {K : Type 0} → (K → List ℕ → ℕ) → WardState K → Type 0
IsLegalWard pseudokey_of ward = IsWard ward.cap (pseudokey_of ward.keyer) (own_prefix ward) ward.start ward.notices ward.table ward.pages

-- what isn't an answer leaves the map as it was
abbrev pub LeavesMap : {K : Type 0} → WardMoment K → Type 0
LeavesMap moment = answer_of moment.event ≡ [] → map_of moment.after.pages ≡ map_of moment.before.pages

pub record IsWardsOneMap {K : Type 0} (pseudokey_of : K → List ℕ → ℕ) (start : WardState K) (moments : List (WardMoment K)) (end : WardState K) : Type 0 where
  -- legal for the start table and all changes, those of the list last
  pub legal : IsLegalWard pseudokey_of end
  pub notices : end.notices ≡ start.notices ++ changes_over moments
  -- the calls and replies are a run of the map machine from the map at the start, and the map at the end is where that run ends
  pub replies : IsHistory start.cap (pseudokey_of start.keyer) (map_of start.pages) (answers_in moments)
  pub left : map_of end.pages ≡ map_left start.cap (pseudokey_of start.keyer) (map_of start.pages) (answers_in moments)
  pub journal : end.journal ≡ start.journal ++ answers_in moments
  -- a split or merge leaves the map as it was, as does whatever was refused or not answered yet
  pub unmoved : All LeavesMap moments
  -- and of the ward nothing else changes
  pub others : end ≡ record start { pages = end.pages; journal = end.journal; notices = end.notices; table = end.table; failures = end.failures }

-- for any list of moments from a legal ward
abbrev pub RunsAreOneMaps : {K : Type 0} → (K → List ℕ → ℕ) → Type 0
RunsAreOneMaps {K} pseudokey_of = (start : WardState K) (moments : List (WardMoment K)) (end : WardState K)
    → IsLegalWard pseudokey_of start → IsWardRun pseudokey_of start moments end → IsWardsOneMap pseudokey_of start moments end

-- and from a sound ward to one
abbrev pub RunsKeepWardsSound : {K : Type 0} → (K → List ℕ → ℕ) → Type 0
RunsKeepWardsSound {K} pseudokey_of = (start : WardState K) (moments : List (WardMoment K)) (end : WardState K)
    → IsSoundWard pseudokey_of start → IsWardRun pseudokey_of start moments end → IsSoundWard pseudokey_of end

-- ---- pages stay

pub record ArePlacesKept {K : Type 0} (start : WardState K) (moments : List (WardMoment K)) (end : WardState K) : Type 0 where
  -- each page of the ward, at the start or after any moment, keeps its number and low bound
  pub places : KeepsPlaces start.pages end.pages
  pub later : All (λ (moment : WardMoment K). KeepsPlaces moment.after.pages end.pages) moments
  -- so a request that stands at a page that isn't beyond its key still does
  pub below : (number pseudokey : ℕ) → IsBelow start.pages number pseudokey → IsBelow end.pages number pseudokey

-- for any list of moments, and whatever the ward
abbrev pub PagesStay : {K : Type 0} → (K → List ℕ → ℕ) → Type 0
PagesStay {K} pseudokey_of = (start : WardState K) (moments : List (WardMoment K)) (end : WardState K)
    → IsWardRun pseudokey_of start moments end → ArePlacesKept start moments end

-- the number is a page's, and stays one's of the same low bound
abbrev pub IsKeptPage : List Page → List Page → ℕ → Type 0
IsKeptPage pages new number = (page : Page) × IsAt pages number page × ((after : Page) × IsAt new number after × (low_bound after ≡ low_bound page))

-- from a legal ward, each page number that a moment names is a page's from then on
abbrev pub NamedPagesStay : {K : Type 0} → (K → List ℕ → ℕ) → Type 0
NamedPagesStay {K} pseudokey_of = (start : WardState K) (moments : List (WardMoment K)) (end : WardState K)
    → IsLegalWard pseudokey_of start → IsWardRun pseudokey_of start moments end
    → All (λ (moment : WardMoment K). All (IsKeptPage moment.after.pages end.pages) (named_by moment.event)) moments

-- ---- moves

-- linked pages, as those of a legal ward are, and a page from which a call of a pseudokey can go on
pub record CanGoOn (ward : List Bool) (pages : List Page) (from pseudokey : ℕ) : Type 0 where
  pub linked : AreLinked ward (bare pages)
  pub word : pseudokey < 2 ^ 64
  pub covered : Begins ward pseudokey
  pub below : IsBelow pages from pseudokey

-- a Get's hops end at the live page whose prefix begins its pseudokey, after as many moves as the distance, with the map machine's reply
abbrev pub GetsGoHome : Type 0
GetsGoHome = (cap : ℕ) (pseudo : List ℕ → ℕ) (ward : List Bool) (pages : List Page) (from : ℕ) (key : List ℕ)
    → CanGoOn ward pages from (pseudo key)
    → (way : GoesHome cap pseudo pages from (Get key)) × HopOf cap pseudo pages way.home (Get key) (Done (reply_of cap pseudo (map_of pages) (Get key)))

-- and so do those of any call; there it is answered, but for a new key's Put at a full page, which must wait for a split
pub record EndsAtHome (cap : ℕ) (pseudo : List ℕ → ℕ) (pages : List Page) (from : ℕ) (call : Call) : Type 0 where
  pub way : GoesHome cap pseudo pages from call
  pub answered : (Overflows cap (map_of pages) way.page call → ⊥) → HopOf cap pseudo pages way.home call (Done (reply_of cap pseudo (map_of pages) call))
  pub waits : Overflows cap (map_of pages) way.page call → HopOf cap pseudo pages way.home call MustSplit

abbrev pub CallsGoHome : Type 0
CallsGoHome = (cap : ℕ) (pseudo : List ℕ → ℕ) (ward : List Bool) (pages : List Page) (from : ℕ) (call : Call)
    → CanGoOn ward pages from (pseudo (key_of call)) → EndsAtHome cap pseudo pages from call

-- calls of one pseudokey make the same moves, whatever they are
abbrev pub MovesAreOfPseudokeys : Type 0
MovesAreOfPseudokeys = (cap : ℕ) (pseudo : List ℕ → ℕ) (pages : List Page) (from : ℕ) (call other : Call) (moves : List ℕ) (to : ℕ)
    → pseudo (key_of call) ≡ pseudo (key_of other) → AreMoves cap pseudo pages call from moves to → AreMoves cap pseudo pages other from moves to

-- each move lowers the distance by exactly one
abbrev pub MovesComeNearer : Type 0
MovesComeNearer = (cap : ℕ) (pseudo : List ℕ → ℕ) (ward : List Bool) (pages : List Page) (from : ℕ) (call : Call) (next distance : ℕ)
    → CanGoOn ward pages from (pseudo (key_of call)) → IsDistance pages from (pseudo (key_of call)) distance → HopOf cap pseudo pages from call (Moved next)
    → (left : ℕ) × (distance ≡ suc left) × IsDistance pages next (pseudo (key_of call)) left

-- of any list of pages, a page has one distance at most
abbrev pub OneDistance : Type 0
OneDistance = (pages : List Page) (from pseudokey one other : ℕ) → IsDistance pages from pseudokey one → IsDistance pages from pseudokey other → one ≡ other

-- a distance in linked pages is at most LIMIT more than the live pages
abbrev pub DistancesAreFew : Type 0
DistancesAreFew = (ward : List Bool) (pages : List Page) (from pseudokey distance : ℕ) → AreLinked ward (bare pages) → IsDistance pages from pseudokey distance → distance ≤ LIMIT + live_pages pages

-- there a distance is what the function gives
abbrev pub DistancesAreComputed : Type 0
DistancesAreComputed = (ward : List Bool) (pages : List Page) (from pseudokey distance : ℕ) → AreLinked ward (bare pages) → IsDistance pages from pseudokey distance → distance ≡ distance_of pages from pseudokey
