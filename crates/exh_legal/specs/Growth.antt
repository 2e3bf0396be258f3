-- Pages that came of a start table by changes.
use Rattle.std.specs.Prelude.{◌≡◌, ◌⊎◌, ◌↔◌, ℕ, ◌<◌, Bool, true, List, [], ◌∷◌, ◌++◌, Option, IsSome, Contains}
use Rattle.std.specs.FinMap.{get}
use Rattle.exh_prefix.specs.Prefix.{low_of}
use Rattle.exh_table.specs.declared.Notice.{Notice}
use Rattle.exh_table.specs.Table.{TableMap}
use Rattle.exh_table.specs.Leaves.{ward_leaves}
use Rattle.exh_page.specs.declared.page.Page.{Page}
use Rattle.exh_page.specs.declared.page.Page.TheVariants.{Live}
use Rattle.exh_page.specs.declared.record.Record.{Record}
use Rattle.exh_page.specs.Page.{low_bound}
use Rattle.exh_legal.specs.Pages.{IsAt, IsLegal, bare}

-- a live page of the prefix
abbrev pub IsLiveAt : List Page → List Bool → ℕ → Type 0
IsLiveAt pages prefix number = (link : Option ℕ) × (records : List Record) × IsAt pages number (Live prefix link records)

-- the page of a low bound
abbrev pub IsPageOf : List Page → ℕ → ℕ → Type 0
IsPageOf pages low number = (page : Page) × IsAt pages number page × (low_bound page ≡ low)

-- the start table or a change has an entry at the prefix
abbrev pub HasEntryEver : TableMap → List Notice → List Bool → Type 0
HasEntryEver start changes prefix = IsSome (get start prefix) ⊎ ((change : Notice) × Contains changes change × (change.prefix ≡ prefix))

pub record IsGrown (ward : List Bool) (start : TableMap) (changes : List Notice) (pages : List Page) : Type 0 where
  -- the prefixes of the live pages are the leaves
  pub leaves : (prefix : List Bool) → ward_leaves start ward changes prefix ↔ ((number : ℕ) × IsLiveAt pages prefix number)
  -- besides page 0 there is a page of the right child's low bound for each prefix that has or had an entry, and no other
  pub for_each : (prefix : List Bool) → HasEntryEver start changes prefix → (number : ℕ) × (0 < number) × IsPageOf pages (low_of (prefix ++ true ∷ [])) number
  pub no_other : (number : ℕ) (page : Page) → IsAt pages number page → 0 < number → (prefix : List Bool) × HasEntryEver start changes prefix × (low_bound page ≡ low_of (prefix ++ true ∷ []))

-- a legal ward: for a start table and the changes since
pub record IsLegalSince (cap : ℕ) (pseudo : List ℕ → ℕ) (ward : List Bool) (start : TableMap) (changes : List Notice) (pages : List Page) : Type 0 where
  pub legal : IsLegal cap pseudo ward pages
  pub grown : IsGrown ward start changes (bare pages)
