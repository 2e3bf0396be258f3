-- A change of a ward's pages and the notice that tells of it.
use Rattle.std.specs.Prelude.{◌≡◌, ◌≢◌, ℕ, Bool, List, ◌++◌, ◌∷◌, [], slice_set}
use Rattle.exh_notice.specs.declared.entry.Kind.{Kind}
use Rattle.exh_notice.specs.declared.entry.Kind.TheVariants.{Split, Merge}
use Rattle.exh_notice.specs.declared.notice.Notice.{Notice}
use Rattle.exh_legal.specs.Table.{table_with}
use Rattle.exh_page.specs.declared.page.Page.{Page}
use Rattle.exh_page.specs.Halves.{left_half, right_half, sent_to, union}
use Rattle.exh_page.specs.Page.{IsDivisible, IsLive, IsWellFormed, records_of}
use Rattle.exh_page.specs.Records.{IsRising}
use Rattle.exh_legal.specs.LegalLaws.{IsChanged}
use Rattle.exh_legal.specs.ChangeNumbers.{next_notice}
use Rattle.exh_legal.specs.Pages.{IsAt}
use Rattle.exh_ward.specs.WardState.{WardState, own_prefix}

-- ---- the two pages of a change

-- two pages fit a change of a kind, the second one being of a number
abbrev pub FitChange : Kind → ℕ → Page → Page → Type 0
FitChange (Split right) other page twin = IsDivisible page × (right ≡ other)
FitChange Merge other page twin = IsLive page × IsLive twin × IsRising (records_of page ++ records_of twin)

-- what becomes of the first one, where the change is told at a prefix
abbrev pub page_changed : Kind → List Bool → Page → Page → Page
page_changed (Split right) prefix page twin = left_half right page
page_changed Merge prefix page twin = union prefix page twin

-- what becomes of the second one, the first being of a number
abbrev pub twin_changed : Kind → ℕ → Page → Page → Page
twin_changed (Split right) number page twin = right_half page
twin_changed Merge number page twin = sent_to number twin

-- the pages with both changed
abbrev pub pages_changed : Kind → List Bool → ℕ → ℕ → Page → Page → List Page → List Page
pages_changed kind prefix number other page twin pages = slice_set (slice_set pages number (page_changed kind prefix page twin)) other (twin_changed kind number page twin)

-- ---- the ward

-- the ward's next notice, at its prefix and of its kind
abbrev pub IsNextNotice : {K : Type 0} → WardState K → Notice → Type 0
IsNextNotice ward notice = notice ≡ next_notice ward.number ward.table notice.prefix notice.kind

-- the pages are legal with the notice among the changes
abbrev pub IsChangedTo : {K : Type 0} → (List ℕ → ℕ) → WardState K → Notice → List Page → Type 0
IsChangedTo pseudo ward notice pages = IsChanged ward.cap pseudo (own_prefix ward) ward.start ward.notices ward.table ward.pages notice pages

-- two pages of the ward may be changed, and told of at a prefix: what comes of them is legal
pub record MayChange {K : Type 0} (pseudo : List ℕ → ℕ) (ward : WardState K) (number other : ℕ) (prefix : List Bool) (kind : Kind) : Type 0 where
  pub page : Page
  pub twin : Page
  pub there : IsAt ward.pages number page
  pub twin_there : IsAt ward.pages other twin
  pub apart : number ≢ other
  pub fit : FitChange kind other page twin
  pub formed : IsWellFormed pseudo (page_changed kind prefix page twin)
  pub twin_formed : IsWellFormed pseudo (twin_changed kind number page twin)
  pub changed : IsChangedTo pseudo ward (next_notice ward.number ward.table prefix kind) (pages_changed kind prefix number other page twin ward.pages)

-- the ward with these pages and the notice
abbrev pub IsTold : {K : Type 0} → WardState K → Notice → List Page → WardState K → Type 0
IsTold old notice pages new = new ≡ record old { pages = pages; notices = old.notices ++ notice ∷ []; table = table_with old.table notice }
