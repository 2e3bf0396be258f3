-- The hop table: what one hop of a call at a page comes to, and the pages that it leaves.
use Rattle.std.specs.Prelude.{◌≡◌, ℕ, ◌<◌, ◌≤◌, Bool, false, not, ◌&&◌, nat_le, nat_lt, if◌then◌else◌, List, length, slice_get, slice_set, Some, None, IsTrue}
use Rattle.std.specs.Option.{option_map_or}
use Rattle.std.specs.FinMap as map
use Rattle.exh_prefix.specs.declared.prefix.TheConstants.{LIMIT}
use Rattle.exh_prefix.specs.Prefix.{Begins, begins}
use Rattle.exh_page.specs.declared.page.Page.{Page}
use Rattle.exh_page.specs.declared.page.Page.TheVariants.{Live, Forward}
use Rattle.exh_page.specs.Page.{low_bound, records_of, with_records}
use Rattle.exh_page.specs.KeyMap.{KeyMap}
use Rattle.exh_calls.specs.Call.{key_of}
use Rattle.exh_calls.specs.MapMachine.{reply_of}
use Rattle.exh_ward.specs.PageAnswer.{records_after}
use Rattle.exh_legal.specs.Pages.{IsAt, IsHome, map_of}
use Rattle.exh_calls.specs.declared.call.Call.{Call}
use Rattle.exh_calls.specs.Effect.{sets_new}
use Rattle.exh_ward.specs.declared.hop.Hop.{Hop}
use Rattle.exh_ward.specs.declared.hop.Hop.TheVariants.{Done, Moved, MustSplit, Stray}

-- the page is there, and its low bound isn't above the pseudokey
pub record IsReached (pages : List Page) (at pseudokey : ℕ) (page : Page) : Type 0 where
  pub there : IsAt pages at page
  pub below : low_bound page ≤ pseudokey

-- where a page that isn't the pseudokey's home sends a request
abbrev pub LeadsTo : Page → ℕ → ℕ → Type 0
LeadsTo (Live prefix right records) pseudokey next = (Begins prefix pseudokey → ⊥) × (right ≡ Some next)
LeadsTo (Forward low target) pseudokey next = target ≡ next

-- the call sets a key that the map lacks, at a full page that is shorter than LIMIT
abbrev pub Overflows : ℕ → KeyMap → Page → Call → Type 0
Overflows cap m (Live prefix right records) call = (map.get m (key_of call) ≡ None) × (cap ≤ length records) × (length prefix < LIMIT) × IsTrue (sets_new call)
Overflows cap m (Forward low target) call = ⊥

abbrev pub HopOf : ℕ → (List ℕ → ℕ) → List Page → ℕ → Call → Hop → Type 0
HopOf cap pseudo pages at call Stray = (page : Page) → IsReached pages at (pseudo (key_of call)) page → ⊥
HopOf cap pseudo pages at call (Moved next) = (page : Page) × IsReached pages at (pseudo (key_of call)) page × LeadsTo page (pseudo (key_of call)) next
HopOf cap pseudo pages at call MustSplit =
    (page : Page) × IsReached pages at (pseudo (key_of call)) page × IsHome page (pseudo (key_of call)) × Overflows cap (map_of pages) page call
HopOf cap pseudo pages at call (Done reply) =
    (page : Page) × IsReached pages at (pseudo (key_of call)) page × IsHome page (pseudo (key_of call)) × (Overflows cap (map_of pages) page call → ⊥)
    × (reply ≡ reply_of cap pseudo (map_of pages) call)

-- ---- the same table as a function, for whoever computes with it

abbrev pub overflows : ℕ → KeyMap → Page → Call → Bool
overflows cap m (Live prefix right records) call = not (map.contains_key m (key_of call)) && (nat_le cap (length records) && (nat_lt (length prefix) LIMIT && sets_new call))
overflows cap m (Forward low target) call = false

-- a legal ward has a right link wherever this asks for one
abbrev pub hop_at : ℕ → (List ℕ → ℕ) → List Page → Call → Page → Hop
hop_at cap pseudo pages call (Forward low target) = Moved target
hop_at cap pseudo pages call (Live prefix right records) =
    if begins prefix (pseudo (key_of call))
    then (if overflows cap (map_of pages) (Live prefix right records) call then MustSplit else Done (reply_of cap pseudo (map_of pages) call))
    else option_map_or Moved right Stray

unfoldable pub hop_of : ℕ → (List ℕ → ℕ) → List Page → ℕ → Call → Hop
hop_of cap pseudo pages at call =
    option_map_or (λ page. if nat_lt (pseudo (key_of call)) (low_bound page) then Stray else hop_at cap pseudo pages call page) (slice_get pages at) Stray

-- ---- the pages after an answer: the call's home has its records after the call

unfoldable pub pages_after : ℕ → (List ℕ → ℕ) → List Page → ℕ → Call → List Page
pages_after cap pseudo pages at call =
    option_map_or (λ page. slice_set pages at (with_records (records_after (nat_le cap (length (records_of page))) (pseudo (key_of call)) call (records_of page)) page)) (slice_get pages at) pages
