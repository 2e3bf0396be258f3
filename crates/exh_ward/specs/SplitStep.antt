-- What a split of a ward's page comes to.
use Rattle.std.specs.Prelude.{◌≡◌, ℕ, ◌<◌, ◌≤◌, Bool, List, [], ◌∷◌, ◌++◌, length, Option}
use Rattle.exh_prefix.specs.declared.prefix.TheConstants.{LIMIT}
use Rattle.exh_notice.specs.declared.entry.Kind.TheVariants.{Split}
use Rattle.exh_notice.specs.declared.notice.Notice.{Notice}
use Rattle.exh_legal.specs.Table.{table_with}
use Rattle.exh_page.specs.declared.page.Page.TheVariants.{Live}
use Rattle.exh_page.specs.declared.record.Record.{Record}
use Rattle.exh_legal.specs.Change.{IsSplit}
use Rattle.exh_legal.specs.LegalLaws.{KeepsPlaces}
use Rattle.exh_legal.specs.ChangeNumbers.{next_notice}
use Rattle.exh_legal.specs.Pages.{IsAt, map_of}
use Rattle.exh_ward.specs.WardState.{WardState}

-- the page at a number is live, of this prefix, which is shorter than LIMIT, and full
pub record IsHalved {K : Type 0} (ward : WardState K) (at : ℕ) (prefix : List Bool) : Type 0 where
  pub link : Option ℕ
  pub records : List Record
  pub there : IsAt ward.pages at (Live prefix link records)
  pub full : ward.cap ≤ length records
  pub short : length prefix < LIMIT

-- the page was split, and its notice is the next at its prefix; nothing else changed
pub record IsSplitStep {K : Type 0} (old : WardState K) (at : ℕ) (notice : Notice) (new : WardState K) : Type 0 where
  pub right : ℕ
  pub split : IsSplit old.cap old.pages at notice.prefix right new.pages
  pub notice_is : notice ≡ next_notice old.number old.table notice.prefix (Split right)
  pub map : map_of new.pages ≡ map_of old.pages
  pub places : KeepsPlaces old.pages new.pages
  pub others : new ≡ record old { pages = new.pages; notices = old.notices ++ notice ∷ []; table = table_with old.table notice }
