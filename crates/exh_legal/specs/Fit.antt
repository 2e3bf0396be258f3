-- A table that fits the pages of a ward, and notices that are true of them.
use Rattle.std.specs.Prelude.{◌≡◌, ◌↔◌, ℕ, ◌<◌, ◌≤◌, ◌%◌, Bool, true, List, [], ◌∷◌, ◌++◌, length, Some, Contains}
use Rattle.std.specs.FinMap.{get}
use Rattle.exh_prefix.specs.declared.prefix.TheConstants.{LIMIT}
use Rattle.exh_prefix.specs.Prefix.{IsFront, low_of}
use Rattle.exh_table.specs.declared.Entry.{Entry}
use Rattle.exh_table.specs.declared.Kind.{Kind}
use Rattle.exh_table.specs.declared.Kind.TheVariants.{Split, Merge}
use Rattle.exh_table.specs.declared.Notice.{Notice}
use Rattle.exh_table.specs.Table.{TableMap}
use Rattle.exh_table.specs.TableWalk.{split_at}
use Rattle.exh_page.specs.declared.page.Page.{Page}
use Rattle.exh_legal.specs.Change.{IsForwardOf}
use Rattle.exh_legal.specs.Growth.{IsLiveAt, IsPageOf}

-- odd exactly for a split
abbrev pub parity_of : Kind → ℕ
parity_of (Split right) = 1
parity_of Merge = 0

-- an entry of the ward: it has the ward's prefix in front, and a version from 1 on that tells its kind
pub record IsWardEntry (ward prefix : List Bool) (entry : Entry) : Type 0 where
  pub within : IsFront ward prefix
  pub some : 1 ≤ entry.number
  pub parity : entry.number % 2 ≡ parity_of entry.kind

abbrev pub IsSplitAt : TableMap → List Bool → Type 0
IsSplitAt table prefix = (right : ℕ) × (split_at table prefix ≡ Some right)

abbrev pub IsMergeAt : TableMap → List Bool → Type 0
IsMergeAt table prefix = (version : ℕ) × (get table prefix ≡ Some (record { number = version; kind = Merge }))

-- a front that is shorter
abbrev pub IsProperFront : List Bool → List Bool → Type 0
IsProperFront front bits = IsFront front bits × (length front < length bits)

-- a proper front of a live page's prefix
abbrev pub IsInner : List Page → List Bool → Type 0
IsInner pages prefix = (leaf : List Bool) × (number : ℕ) × IsLiveAt pages leaf number × IsProperFront prefix leaf

pub record FitsPages (ward : List Bool) (table : TableMap) (pages : List Page) : Type 0 where
  pub entries : (prefix : List Bool) (entry : Entry) → get table prefix ≡ Some entry → IsWardEntry ward prefix entry
  -- splits stand exactly at the proper fronts of live prefixes that are no shorter than the ward's
  pub splits : (prefix : List Bool) → IsSplitAt table prefix ↔ (IsFront ward prefix × IsInner pages prefix)
  -- merges stand exactly where a forwarding page has the right child's low bound
  pub merges : (prefix : List Bool) → IsMergeAt table prefix ↔ ((length prefix < LIMIT) × ((number : ℕ) × IsForwardOf pages (low_of (prefix ++ true ∷ [])) number))
  -- a split's right page is the page of the right child's low bound
  pub rights : (prefix : List Bool) (right : ℕ) → split_at table prefix ≡ Some right → IsPageOf pages (low_of (prefix ++ true ∷ [])) right

-- a notice of the ward that is true of the pages: a split's right page is the page of the right child's low bound
pub record IsTrueNotice (ward : List Bool) (pages : List Page) (notice : Notice) : Type 0 where
  pub within : IsFront ward notice.prefix
  pub right : (right : ℕ) → notice.kind ≡ Split right → IsPageOf pages (low_of (notice.prefix ++ true ∷ [])) right

abbrev pub AreTrueNotices : List Bool → List Page → List Notice → Type 0
AreTrueNotices ward pages notices = (notice : Notice) → Contains notices notice → IsTrueNotice ward pages notice
