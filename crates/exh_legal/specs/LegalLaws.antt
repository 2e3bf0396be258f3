-- Laws of legal pages, that the crates above cite.
use Rattle.std.specs.Prelude.{◌≡◌, ℕ, ◌-◌, ◌+◌, ◌%◌, ◌^◌, ◌<◌, ◌≤◌, Bool, true, false, List, ◌∷◌, [], ◌++◌, length, Option, None, Some}
use Rattle.std.specs.FinMap as fin
use Rattle.exh_prefix.specs.declared.prefix.TheConstants.{LIMIT}
use Rattle.exh_prefix.specs.Prefix.{Begins, low_of}
use Rattle.exh_table.specs.declared.Kind.TheVariants.{Split, Merge}
use Rattle.exh_table.specs.declared.Notice.{Notice}
use Rattle.exh_table.specs.declared.leaf.Leaf.{Leaf}
use Rattle.exh_table.specs.Table.{TableMap, table_with}
use Rattle.exh_table.specs.Leaves.{ward_leaves}
use Rattle.exh_table.specs.TableWalk.{walk_in, split_at}
use Rattle.exh_table.specs.Directory.{IsName}
use Rattle.exh_page.specs.declared.page.Page.{Page}
use Rattle.exh_page.specs.declared.page.Page.TheVariants.{Live, Forward}
use Rattle.exh_page.specs.declared.record.Record.{Record}
use Rattle.exh_page.specs.PageLaws.{AreOfWords}
use Rattle.exh_page.specs.Page.{low_bound}
use Rattle.exh_legal.specs.Pages.{IsAt, IsLegal, map_of, bare, AreLinked}
use Rattle.exh_legal.specs.Change.{IsForwardOf, IsSplit, IsMerge}
use Rattle.exh_legal.specs.Growth.{IsLiveAt, IsPageOf, IsLegalSince}
use Rattle.exh_legal.specs.Fit.{FitsPages, IsTrueNotice}
use Rattle.exh_legal.specs.ChangeNumbers.{number_at, index_of}

-- ---- changes

-- every page keeps its number and its low bound
abbrev pub KeepsPlaces : List Page → List Page → Type 0
KeepsPlaces pages new = (number : ℕ) (page : Page) → IsAt pages number page → (after : Page) × IsAt new number after × (low_bound after ≡ low_bound page)

-- the page is there, and its low bound isn't above the pseudokey
abbrev pub IsBelow : List Page → ℕ → ℕ → Type 0
IsBelow pages number pseudokey = (page : Page) × IsAt pages number page × (low_bound page ≤ pseudokey)

-- the pages after a change are legal, with its notice among the changes, and hold the same map; the table with the notice fits them, and the notice is true of them
pub record IsChanged (cap : ℕ) (pseudo : List ℕ → ℕ) (ward : List Bool) (start : TableMap) (changes : List Notice) (table : TableMap) (pages : List Page) (notice : Notice) (new : List Page) : Type 0 where
  pub legal : IsLegalSince cap pseudo ward start (changes ++ notice ∷ []) new
  pub fits : FitsPages ward (table_with table notice) (bare new)
  pub told : IsTrueNotice ward new notice
  pub map : map_of new ≡ map_of pages
  pub places : KeepsPlaces pages new
  pub index : index_of (table_with table notice) ≡ index_of table + 1

-- the ward of some pages, its start table, the changes since and the table now
pub record IsWard (cap : ℕ) (pseudo : List ℕ → ℕ) (ward : List Bool) (start : TableMap) (changes : List Notice) (table : TableMap) (pages : List Page) : Type 0 where
  pub legal : IsLegalSince cap pseudo ward start changes pages
  pub fits : FitsPages ward table (bare pages)

abbrev pub SplitsKeepLegal : Type 0
SplitsKeepLegal =
    (cap : ℕ) (pseudo : List ℕ → ℕ) (ward : List Bool) (start : TableMap) (changes : List Notice) (table : TableMap) (pages : List Page) (at : ℕ) (prefix : List Bool) (right : ℕ) (new : List Page) (notice : Notice)
    → IsWard cap pseudo ward start changes table pages → IsSplit cap pages at prefix right new
    → notice.prefix ≡ prefix → notice.number ≡ number_at table prefix + 1 → notice.kind ≡ Split right
    → IsChanged cap pseudo ward start changes table pages notice new

abbrev pub MergesKeepLegal : Type 0
MergesKeepLegal =
    (cap : ℕ) (pseudo : List ℕ → ℕ) (ward : List Bool) (start : TableMap) (changes : List Notice) (table : TableMap) (pages : List Page) (at : ℕ) (prefix : List Bool) (new : List Page) (notice : Notice)
    → AreOfWords pseudo → IsWard cap pseudo ward start changes table pages → IsMerge cap pages at prefix new
    → notice.prefix ≡ prefix → notice.number ≡ number_at table prefix + 1 → notice.kind ≡ Merge
    → IsChanged cap pseudo ward start changes table pages notice new

-- before a split of a live page the number at its prefix is even, and if a page has its right child's low bound, that forwards
pub record IsSplittable (table : TableMap) (pages : List Page) (prefix : List Bool) : Type 0 where
  pub even : (number_at table prefix) % 2 ≡ 0
  pub forwards : (number : ℕ) → IsPageOf pages (low_of (prefix ++ true ∷ [])) number → IsForwardOf pages (low_of (prefix ++ true ∷ [])) number

abbrev pub LivePagesSplit : Type 0
LivePagesSplit =
    (cap : ℕ) (pseudo : List ℕ → ℕ) (ward : List Bool) (start : TableMap) (changes : List Notice) (table : TableMap) (pages : List Page) (prefix : List Bool) (number : ℕ)
    → IsWard cap pseudo ward start changes table pages → IsLiveAt pages prefix number → length prefix < LIMIT → IsSplittable table pages prefix

-- before a merge of a live left child the number at its parent is odd, and the table's split there names the page of the right child's low bound, which is the right
-- child's page if that is live
pub record IsMergeable (table : TableMap) (pages : List Page) (prefix : List Bool) : Type 0 where
  pub odd : (number_at table prefix) % 2 ≡ 1
  pub right : ℕ
  pub split : split_at table prefix ≡ Some right
  pub page : IsPageOf pages (low_of (prefix ++ true ∷ [])) right
  pub buddy : (number : ℕ) → IsLiveAt pages (prefix ++ true ∷ []) number → number ≡ right

abbrev pub LiveLeftChildrenMerge : Type 0
LiveLeftChildrenMerge =
    (cap : ℕ) (pseudo : List ℕ → ℕ) (ward : List Bool) (start : TableMap) (changes : List Notice) (table : TableMap) (pages : List Page) (prefix : List Bool) (number : ℕ)
    → IsWard cap pseudo ward start changes table pages → IsLiveAt pages (prefix ++ false ∷ []) number → length ward ≤ length prefix → IsMergeable table pages prefix

-- ---- walks

-- the walk of the table ends at the live page whose prefix is the directory's name of the pseudokey
pub record NamesHome (ward : List Bool) (start : TableMap) (changes : List Notice) (table : TableMap) (pages : List Page) (pseudokey : ℕ) : Type 0 where
  pub leaf : Leaf
  pub walk : walk_in table ward pseudokey ≡ leaf
  pub live : IsLiveAt pages leaf.prefix leaf.page
  pub name : IsName (ward_leaves start ward changes) pseudokey leaf.prefix

abbrev pub WalksNameHomes : Type 0
WalksNameHomes =
    (cap : ℕ) (pseudo : List ℕ → ℕ) (ward : List Bool) (start : TableMap) (changes : List Notice) (table : TableMap) (pages : List Page) (pseudokey : ℕ)
    → IsWard cap pseudo ward start changes table pages → pseudokey < 2 ^ 64 → Begins ward pseudokey → NamesHome ward start changes table pages pseudokey

-- ---- links

-- a right link that is there, to a page whose low bound isn't above the pseudokey
abbrev pub LeadsOn : List Page → Option ℕ → ℕ → Type 0
LeadsOn pages link pseudokey = (next : ℕ) × (link ≡ Some next) × (page : Page) × IsAt pages next page × (low_bound page ≤ pseudokey)

-- a live page that doesn't begin a pseudokey of the ward, with no greater low bound, has a right link, and to such a page
abbrev pub RightLinksLeadOn : Type 0
RightLinksLeadOn =
    (ward : List Bool) (pages : List Page) (number : ℕ) (prefix : List Bool) (link : Option ℕ) (records : List Record) (pseudokey : ℕ)
    → AreLinked ward (bare pages) → IsAt pages number (Live prefix link records) → pseudokey < 2 ^ 64 → Begins ward pseudokey → low_of prefix ≤ pseudokey → (Begins prefix pseudokey → ⊥)
    → LeadsOn pages link pseudokey

-- a forwarding page's target has no greater low bound than it
abbrev pub TargetsLeadOn : Type 0
TargetsLeadOn =
    (ward : List Bool) (pages : List Page) (number low target : ℕ) → AreLinked ward (bare pages) → IsAt pages number (Forward low target) → (page : Page) × IsAt pages target page × (low_bound page ≤ low)

-- the right link of a live left child: it leads to the page of the sibling's low bound, which is the sibling's page if that is live
pub record LinksToSibling (pages : List Page) (prefix : List Bool) (link : Option ℕ) : Type 0 where
  pub right : ℕ
  pub link_is : link ≡ Some right
  pub page : IsPageOf pages (low_of (prefix ++ true ∷ [])) right
  pub sibling : (number : ℕ) → IsLiveAt pages (prefix ++ true ∷ []) number → number ≡ right

abbrev pub LeftChildrenLinkToSiblings : Type 0
LeftChildrenLinkToSiblings =
    (ward : List Bool) (pages : List Page) (number : ℕ) (prefix : List Bool) (link : Option ℕ) (records : List Record)
    → AreLinked ward (bare pages) → IsAt pages number (Live (prefix ++ false ∷ []) link records) → length ward ≤ length prefix → LinksToSibling pages prefix link

-- ---- the beginning, and how many there can be

-- a lone empty page of the ward's own prefix is a legal ward, of the table with no entry and no change
abbrev pub LonePagesAreLegal : Type 0
LonePagesAreLegal = (cap : ℕ) (pseudo : List ℕ → ℕ) (ward : List Bool) → length ward ≤ LIMIT → IsWard cap pseudo ward fin.empty [] fin.empty (Live ward None [] ∷ [])

-- a ward has at most as many pages as there are prefixes of LIMIT bits in it
abbrev pub PagesAreFew : Type 0
PagesAreFew = (ward : List Bool) (pages : List Page) → length ward ≤ LIMIT → AreLinked ward (bare pages) → length pages ≤ 2 ^ (LIMIT - length ward)

-- and its table has fewer entries: there is a page for each, and page 0
abbrev pub EntriesAreFew : Type 0
EntriesAreFew = (ward : List Bool) (table : TableMap) (pages : List Page) → length ward ≤ LIMIT → AreLinked ward (bare pages) → FitsPages ward table (bare pages) → length (fin.entries table) < 2 ^ (LIMIT - length ward)

-- a table that fits legal pages can be where they begin: they are a ward of that start, with no change since
abbrev pub FittingTablesBeginWards : Type 0
FittingTablesBeginWards =
    (cap : ℕ) (pseudo : List ℕ → ℕ) (ward : List Bool) (table : TableMap) (pages : List Page) → IsLegal cap pseudo ward pages → FitsPages ward table (bare pages) → IsWard cap pseudo ward table [] table pages
