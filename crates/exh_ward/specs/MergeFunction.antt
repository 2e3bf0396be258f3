-- A merge of a ward's page as a function, for whoever computes with it.
use Rattle.std.specs.Prelude.{ℕ, ◌+◌, ◌-◌, ◌^◌, Bool, true, false, not, ◌&&◌, nat_eq, nat_lt, if◌then◌else◌, List, [], ◌∷◌, ◌++◌, length, take, get_or, slice_get, Option, None, Result, Ok, Err}
use Rattle.std.specs.List.{position_or_len}
use Rattle.std.specs.Option.{option_map_or}
use Rattle.exh_prefix.specs.Prefix.{low_of}
use Rattle.exh_notice.specs.declared.entry.Kind.TheVariants.{Merge}
use Rattle.exh_notice.specs.declared.notice.Notice.{Notice}
use Rattle.exh_page.specs.declared.page.Page.{Page}
use Rattle.exh_page.specs.declared.page.Page.TheVariants.{Live, Forward}
use Rattle.exh_page.specs.declared.record.Record.{Record}
use Rattle.exh_page.specs.Page.{records_of}
use Rattle.exh_legal.specs.ChangeNumbers.{next_notice, number_at}
use Rattle.exh_ward.specs.PlacedPages.{with_page, ward_after}
use Rattle.exh_ward.specs.WardState.{WardState, own_prefix}
use Rattle.exh_ward.specs.declared.ward_fault.WardFault.{WardFault}
use Rattle.exh_ward.specs.declared.ward_fault.WardFault.TheVariants.{NoPage, NotLive, NoBuddy, BuddySplit, TooMany, Worn}

-- ---- the buddy

-- the bits but the last
abbrev pub parent_of : List Bool → List Bool
parent_of prefix = take (length prefix - 1) prefix

-- a left child of a prefix that is no shorter than the ward's: longer than that, and its last bit is 0
abbrev pub is_left_child : {K : Type 0} → WardState K → List Bool → Bool
is_left_child ward prefix = nat_lt (length (own_prefix ward)) (length prefix) && not (get_or prefix (length prefix - 1) true)

abbrev pub is_live_of : List Bool → Page → Bool
is_live_of prefix (Live own link records) = nat_eq (low_of own) (low_of prefix) && nat_eq (length own) (length prefix)
is_live_of prefix (Forward low target) = false

-- the number of the live page of a parent's right child: where there is none, the number after the last
abbrev pub buddy_number : List Page → List Bool → ℕ
buddy_number pages parent = position_or_len (is_live_of (parent ++ true ∷ [])) pages

abbrev pub link_of : Page → Option ℕ
link_of (Live prefix link records) = link
link_of (Forward low target) = None

-- ---- the refusal, the first that fits, or the notice

-- of two pages with so many records together
abbrev pub merge_of_both : {K : Type 0} → WardState K → List Bool → ℕ → Result Notice WardFault
merge_of_both ward parent sum =
    if nat_lt ward.cap sum
    then Err (TooMany sum)
    else (if nat_eq (number_at ward.table parent) (2 ^ 32 - 1) then Err Worn else Ok (next_notice ward.number ward.table parent Merge))

abbrev pub merge_of_page : {K : Type 0} → WardState K → Page → Result Notice WardFault
merge_of_page ward (Forward low target) = Err NotLive
merge_of_page ward (Live prefix link records) =
    if is_left_child ward prefix
    then option_map_or (λ buddy. merge_of_both ward (parent_of prefix) (length records + length (records_of buddy))) (slice_get ward.pages (buddy_number ward.pages (parent_of prefix))) (Err BuddySplit)
    else Err NoBuddy

unfoldable pub merge_of : {K : Type 0} → WardState K → ℕ → Result Notice WardFault
merge_of ward at = option_map_or (merge_of_page ward) (slice_get ward.pages at) (Err NoPage)

-- ---- the ward after it

-- the left child has the parent's prefix, all records and the buddy's right link, and the buddy sends callers on to it
abbrev pub united : List Page → ℕ → List Bool → List Record → Page → List Page
united pages at parent records buddy =
    with_page (buddy_number pages parent) (Forward (low_of (parent ++ true ∷ [])) at) (with_page at (Live parent (link_of buddy) (records ++ records_of buddy)) pages)

abbrev pub merged : List Page → ℕ → Page → List Page
merged pages at (Forward low target) = pages
merged pages at (Live prefix link records) = option_map_or (united pages at (parent_of prefix) records) (slice_get pages (buddy_number pages (parent_of prefix))) pages

unfoldable pub ward_after_merge : {K : Type 0} → WardState K → ℕ → WardState K
ward_after_merge ward at = ward_after ward (merge_of ward at) (option_map_or (merged ward.pages at) (slice_get ward.pages at) ward.pages)
