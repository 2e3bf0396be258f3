-- A ward's pages by their low bounds, and in the order of these.
use Rattle.std.specs.Prelude.{◌≡◌, ⊤, ◌↔◌, ℕ, ◌+◌, ◌-◌, ◌<◌, ◌^◌, cond, ◌&&◌, nat_eq, nat_le, Bool, true, List, [], ◌∷◌, ◌++◌, length, slice_get, Option, Some, None, IsSome}
use Rattle.std.specs.BTreeMap.{is_at}
use Rattle.std.specs.FinMap.{get}
use Rattle.std.specs.Map.{lookup}
use Rattle.std.specs.Option.{option_map_or}
use Rattle.std.specs.Ordering.{nat_cmp}
use Rattle.exh_prefix.specs.Bits.{lowest_cleared}
use Rattle.exh_prefix.specs.declared.prefix.TheConstants.{LIMIT}
use Rattle.exh_prefix.specs.Prefix.{low_of}
use Rattle.exh_table.specs.declared.Entry.{Entry}
use Rattle.exh_table.specs.declared.Kind.{Kind}
use Rattle.exh_table.specs.declared.Kind.TheVariants.{Split, Merge}
use Rattle.exh_table.specs.Table.{TableMap}
use Rattle.exh_page.specs.declared.page.Page.{Page}
use Rattle.exh_page.specs.declared.page.Page.TheVariants.{Live, Forward}
use Rattle.exh_page.specs.declared.page_head.PageHead.{PageHead}
use Rattle.exh_page.specs.Page.{IsLive, low_bound}
use Rattle.exh_page.specs.PageHead.{head_of}
use Rattle.exh_legal.specs.Fit.{IsWardEntry}
use Rattle.exh_legal.specs.Growth.{IsPageOf}
use Rattle.exh_legal.specs.Pages.{IsAt}

-- what the entries have at a low bound
abbrev pub page_number_at : List (ℕ × ℕ) → ℕ → Option ℕ
page_number_at entries low = lookup (is_at (nat_cmp low)) entries

-- the entries are the pages by their low bounds
abbrev pub AreIndex : List (ℕ × ℕ) → List Page → Type 0
AreIndex entries pages = (low number : ℕ) → (page_number_at entries low ≡ Some number) ↔ IsPageOf pages low number

-- where the pseudokeys end that a prefix begins
abbrev pub end_of : List Bool → ℕ
end_of prefix = low_of prefix + 2 ^ (64 - length prefix)

-- where the live pages end, one beside the other from a number on, and none shorter than the ward's prefix; none where they don't
abbrev pub way_end_after : ℕ → ℕ → Page → Option ℕ
way_end_after least from (Live prefix right records) = cond (nat_le least (length prefix) && nat_eq (low_of prefix) from) (Some (end_of prefix)) None
way_end_after least from (Forward low target) = Some from

abbrev pub end_over : List Page → ℕ → ℕ → List (ℕ × ℕ) → Option ℕ
end_over pages least from [] = Some from
end_over pages least from (entry ∷ entries) = option_map_or (λ page. option_map_or (λ next. end_over pages least next entries) (way_end_after least from page) None) (slice_get pages entry.1) None

-- the page that a live page's right link names, where the leaves are legal
abbrev pub next_of : List (ℕ × ℕ) → List Bool → Option ℕ
next_of entries prefix = page_number_at entries (end_of prefix)

-- ---- what is asked of one page

-- it holds of each page that has this head
abbrev pub EachOf : PageHead → (Page → Type 0) → Type 0
EachOf head P = (page : Page) → head ≡ head_of page → P page

-- a right link is the page that the index has where the prefix ends
abbrev pub IsLinkedBy : List (ℕ × ℕ) → Page → Type 0
IsLinkedBy entries (Live prefix right records) = right ≡ next_of entries prefix
IsLinkedBy entries (Forward low target) = ⊤

-- a target is the page that the index has at the low bound with the lowest set bit cleared
abbrev pub IsAimedBy : List (ℕ × ℕ) → Page → Type 0
IsAimedBy entries (Live prefix right records) = ⊤
IsAimedBy entries (Forward low target) = page_number_at entries (lowest_cleared low) ≡ Some target

-- ---- what is asked of one entry, and of one page, for the table

-- a split names the live page of its right child's low bound, a merge stands where a forwarding page has it
abbrev pub IsToldBy : Kind → ℕ → Page → Type 0
IsToldBy (Split right) number page = (right ≡ number) × IsLive page
IsToldBy Merge number page = IsLive page → ⊥

pub record IsOwnEntry (ward : List Bool) (pages : List Page) (prefix : List Bool) (entry : Entry) : Type 0 where
  pub own : IsWardEntry ward prefix entry
  pub short : length prefix < LIMIT
  pub told : (number : ℕ) × (page : Page) × IsAt pages number page × (low_bound page ≡ low_of (prefix ++ true ∷ [])) × IsToldBy entry.kind number page

-- the table has an entry where a page's low bound is the right child's
abbrev pub IsRecordedBy : TableMap → Page → Type 0
IsRecordedBy table page = (parent : List Bool) → length parent < LIMIT → low_bound page ≡ low_of (parent ++ true ∷ []) → IsSome (get table parent)
