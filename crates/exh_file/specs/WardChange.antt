-- A call that a ward answers by itself, and the splits that made room for it.
use Rattle.std.specs.Prelude.{◌≡◌, ℕ, ◌≤◌, ◌<◌, Bool, List, [], ◌∷◌, ◌++◌, length, Option}
use Rattle.exh_notice.specs.declared.notice.Notice.{Notice}
use Rattle.exh_prefix.specs.declared.prefix.TheConstants.{LIMIT}
use Rattle.exh_prefix.specs.Prefix.{Begins}
use Rattle.exh_page.specs.declared.page.Page.{Page}
use Rattle.exh_page.specs.declared.page.Page.TheVariants.{Live}
use Rattle.exh_page.specs.declared.record.Record.{Record}
use Rattle.exh_calls.specs.declared.call.Call.{Call}
use Rattle.exh_calls.specs.declared.reply.Reply.{Reply}
use Rattle.exh_calls.specs.MapMachine.{reply_of, map_after}
use Rattle.exh_legal.specs.Pages.{IsAt, map_of}
use Rattle.exh_ward.specs.SplitStep.{IsSplitStep}
use Rattle.exh_ward.specs.WardState.{WardState, IsAnswered, IsUnchanged}
use Rattle.exh_file.specs.declared.ward_change.TheConstants.{CHANGER}

-- pages were split, one after the other, each with its notice, the latest first; nothing else changed
abbrev pub AreSplits : {K : Type 0} → WardState K → List (ℕ × Notice) → WardState K → Type 0
AreSplits old [] new = new ≡ old
AreSplits {K} old (split ∷ earlier) new = (between : WardState K) × AreSplits old earlier between × IsSplitStep between split.0 split.1 new

-- some splits, and of the rest only the count of failures may differ
pub record AreSplitsAtMost {K : Type 0} (old new : WardState K) : Type 0 where
  pub splits : List (ℕ × Notice)
  pub split : WardState K
  pub run : AreSplits old splits split
  pub else_same : IsUnchanged split new

-- after some splits the call was answered at a page; the reply and the map are the map machine's over the map from before, and the journal has this entry more
pub record IsChanged {K : Type 0} (pseudokey_of : K → List ℕ → ℕ) (old : WardState K) (call : Call) (reply : Reply) (new : WardState K) : Type 0 where
  pub splits : List (ℕ × Notice)
  pub split : WardState K
  pub run : AreSplits old splits split
  pub home : ℕ
  pub answered : IsAnswered pseudokey_of split home CHANGER call reply new
  pub reply_is : reply ≡ reply_of old.cap (pseudokey_of old.keyer) (map_of old.pages) call
  pub map : map_of new.pages ≡ map_after old.cap (pseudokey_of old.keyer) (map_of old.pages) call
  pub journal : new.journal ≡ old.journal ++ record { client = CHANGER; call = call; reply = reply } ∷ []

-- ---- of private functions

-- the page is live, full and shorter than LIMIT
pub record IsFullAt {K : Type 0} (ward : WardState K) (at : ℕ) : Type 0 where
  pub prefix : List Bool
  pub link : Option ℕ
  pub records : List Record
  pub there : IsAt ward.pages at (Live prefix link records)
  pub full : ward.cap ≤ length records
  pub short : length prefix < LIMIT

-- the live page there, whose prefix begins the pseudokey
pub record IsHomeAt (pages : List Page) (pseudokey at : ℕ) : Type 0 where
  pub prefix : List Bool
  pub link : Option ℕ
  pub records : List Record
  pub there : IsAt pages at (Live prefix link records)
  pub begins : Begins prefix pseudokey

-- the page was split
abbrev pub IsSplitAway : {K : Type 0} → WardState K → ℕ → WardState K → Type 0
IsSplitAway old at new = (notice : Notice) × IsSplitStep old at notice new
