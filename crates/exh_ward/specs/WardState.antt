-- A ward as a value, and what its steps leave of it.
use Rattle.std.specs.Prelude.{◌≡◌, ℕ, ◌+◌, nat_lt, Bool, List, ◌++◌, ◌∷◌, [], length, filter}
use Rattle.exh_notice.specs.declared.notice.Notice.{Notice}
use Rattle.exh_legal.specs.Table.{TableMap, IsTableSince}
use Rattle.exh_page.specs.declared.page.Page.{Page}
use Rattle.exh_legal.specs.Fit.{AreTrueNotices}
use Rattle.exh_page.specs.KeyMap.{KeyMap}
use Rattle.exh_legal.specs.ChangeNumbers.{AreNumbered, index_of}
use Rattle.exh_legal.specs.LegalLaws.{IsWard}
use Rattle.exh_prefix.specs.Leading.{ward_prefix}
use Rattle.exh_legal.specs.Pages.{map_of}
use Rattle.exh_calls.specs.History.{IsHistory, map_left}
use Rattle.exh_ward.specs.HopTable.{pages_after}
use Rattle.exh_calls.specs.MapMachine.{map_after}
use Rattle.exh_calls.specs.declared.journal_entry.JournalEntry.{JournalEntry}
use Rattle.exh_calls.specs.declared.call.Call.{Call}
use Rattle.exh_ward.specs.declared.hop.Hop.{Hop}
use Rattle.exh_ward.specs.declared.hop.Hop.TheVariants.{Done, Moved, MustSplit, Stray}
use Rattle.exh_calls.specs.declared.reply.Reply.{Reply}

pub record WardState (K : Type 0) : Type 0 where
  pub pages : List Page
  -- the map that the history begins with
  pub base : KeyMap
  pub journal : List JournalEntry
  -- the table at first, the notices since, and the table of both
  pub start : TableMap
  pub notices : List Notice
  pub table : TableMap
  -- how often a page couldn't be reached
  pub failures : ℕ
  pub cap : ℕ
  pub ward_bits : ℕ
  pub number : ℕ
  pub keyer : K

abbrev pub own_prefix : {K : Type 0} → WardState K → List Bool
own_prefix ward = ward_prefix ward.ward_bits ward.number

-- the pages are a legal ward for the start table and the notices since, and the table fits them; it is that of the start and the notices;
-- each notice is true of the pages, and has the count of the changes so far as its index; and the pages hold the map that the journal, which is a
-- history, leaves of the base
pub record IsSound {K : Type 0} (pseudo : List ℕ → ℕ) (ward : WardState K) : Type 0 where
  pub legal : IsWard ward.cap pseudo (own_prefix ward) ward.start ward.notices ward.table ward.pages
  pub since : IsTableSince ward.start ward.notices ward.table
  pub numbered : AreNumbered ward.number ward.start ward.notices
  pub counted : index_of ward.table ≡ index_of ward.start + length ward.notices
  pub notices : AreTrueNotices (own_prefix ward) ward.pages ward.notices
  pub history : IsHistory ward.cap pseudo ward.base ward.journal
  pub left : map_of ward.pages ≡ map_left ward.cap pseudo ward.base ward.journal

abbrev pub IsSoundWard : {K : Type 0} → (K → List ℕ → ℕ) → WardState K → Type 0
IsSoundWard pseudokey_of ward = IsSound (pseudokey_of ward.keyer) ward

-- the notices whose index is above a number, in order
abbrev pub notices_above : ℕ → List Notice → List Notice
notices_above n notices = filter (λ notice. nat_lt n notice.index) notices

-- ---- hops

-- an answered call changed the records of its home, so that the map is the map machine's, and is one entry more
pub record IsAnswered {K : Type 0} (pseudokey_of : K → List ℕ → ℕ) (old : WardState K) (at client : ℕ) (call : Call) (reply : Reply) (new : WardState K) : Type 0 where
  pub pages : new.pages ≡ pages_after old.cap (pseudokey_of old.keyer) old.pages at call
  pub map : map_of new.pages ≡ map_after old.cap (pseudokey_of old.keyer) (map_of old.pages) call
  pub journal : new.journal ≡ old.journal ++ record { client = client; call = call; reply = reply } ∷ []
  pub others : new ≡ record old { pages = new.pages; journal = new.journal }

-- what a hop leaves: a call that isn't answered changes nothing
abbrev pub LeavesAfter : {K : Type 0} → (K → List ℕ → ℕ) → WardState K → ℕ → ℕ → Call → Hop → WardState K → Type 0
LeavesAfter pseudokey_of old at client call (Done reply) new = IsAnswered pseudokey_of old at client call reply new
LeavesAfter pseudokey_of old at client call (Moved next) new = new ≡ old
LeavesAfter pseudokey_of old at client call MustSplit new = new ≡ old
LeavesAfter pseudokey_of old at client call Stray new = new ≡ old

-- ---- histories

-- the ward with its history begun anew: the base is the map of its pages, and no call was answered since
abbrev pub history_begun : {K : Type 0} → WardState K → WardState K
history_begun ward = record ward { base = map_of ward.pages; journal = [] }

-- ---- refusals

-- nothing but the count of failures differs
abbrev pub IsUnchanged : {K : Type 0} → WardState K → WardState K → Type 0
IsUnchanged old new = new ≡ record old { failures = new.failures }
