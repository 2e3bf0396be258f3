-- What a merge of a ward's page comes to.
use Rattle.std.specs.Prelude.{◌≡◌, ◌⊎◌, ℕ, ◌+◌, ◌<◌, ◌≤◌, Bool, true, false, List, [], ◌∷◌, ◌++◌, length, Option}
use Rattle.exh_prefix.specs.declared.prefix.TheConstants.{LIMIT}
use Rattle.exh_notice.specs.declared.entry.Kind.TheVariants.{Merge}
use Rattle.exh_notice.specs.declared.notice.Notice.{Notice}
use Rattle.exh_legal.specs.Table.{table_with}
use Rattle.exh_page.specs.declared.page.Page.TheVariants.{Live}
use Rattle.exh_page.specs.declared.record.Record.{Record}
use Rattle.exh_legal.specs.Change.{IsMerge}
use Rattle.exh_legal.specs.LegalLaws.{KeepsPlaces}
use Rattle.exh_legal.specs.ChangeNumbers.{next_notice}
use Rattle.exh_legal.specs.Pages.{IsAt, map_of}
use Rattle.exh_ward.specs.WardState.{WardState, own_prefix}

-- the page at a number is the live left child of a prefix, which is no shorter than the ward's
pub record IsLeftChild {K : Type 0} (ward : WardState K) (at : ℕ) (prefix : List Bool) (records : List Record) : Type 0 where
  pub link : Option ℕ
  pub there : IsAt ward.pages at (Live (prefix ++ false ∷ []) link records)
  pub inner : length (own_prefix ward) ≤ length prefix

-- the right child is live, with these records
abbrev pub IsBuddy : {K : Type 0} → WardState K → List Bool → List Record → Type 0
IsBuddy ward prefix records = (number : ℕ) × (link : Option ℕ) × IsAt ward.pages number (Live (prefix ++ true ∷ []) link records)

-- the pages at two numbers are the live halves of a parent, and fit into one
pub record FitTogether {K : Type 0} (ward : WardState K) (at : ℕ) (parent : List Bool) (right : ℕ) : Type 0 where
  pub records : List Record
  pub link : Option ℕ
  pub others : List Record
  pub left : IsLeftChild ward at parent records
  pub buddy : IsAt ward.pages right (Live (parent ++ true ∷ []) link others)
  pub few : length records + length others ≤ ward.cap
  pub short : length parent < LIMIT

-- the live page can't be a left half: its prefix is the ward's own, or ends in 1
abbrev pub HasNoBuddy : {K : Type 0} → WardState K → List Bool → Type 0
HasNoBuddy ward prefix = (prefix ≡ own_prefix ward) ⊎ ((parent : List Bool) × (prefix ≡ parent ++ true ∷ []))

-- the page took in its right buddy, and its notice is the next at their parent; nothing else changed
pub record IsMergeStep {K : Type 0} (old : WardState K) (at : ℕ) (notice : Notice) (new : WardState K) : Type 0 where
  pub merge : IsMerge old.cap old.pages at notice.prefix new.pages
  pub notice_is : notice ≡ next_notice old.number old.table notice.prefix Merge
  pub map : map_of new.pages ≡ map_of old.pages
  pub places : KeepsPlaces old.pages new.pages
  pub others : new ≡ record old { pages = new.pages; notices = old.notices ++ notice ∷ []; table = table_with old.table notice }
