-- A split of a ward's page as a function, for whoever computes with it.
use Rattle.std.specs.Prelude.{ℕ, Bool, true, false, nat_eq, nat_le, nat_lt, if◌then◌else◌, List, [], ◌∷◌, ◌++◌, length, slice_get, Option, Some, Result, Ok, Err}
use Rattle.std.specs.List.{position_or_len}
use Rattle.std.specs.Option.{option_map_or}
use Rattle.exh_prefix.specs.declared.prefix.TheConstants.{LIMIT}
use Rattle.exh_prefix.specs.Prefix.{low_of}
use Rattle.exh_notice.specs.declared.entry.Kind.TheVariants.{Split}
use Rattle.exh_notice.specs.declared.notice.Notice.{Notice}
use Rattle.exh_page.specs.declared.page.Page.{Page}
use Rattle.exh_page.specs.declared.page.Page.TheVariants.{Live, Forward}
use Rattle.exh_page.specs.declared.record.Record.{Record}
use Rattle.exh_page.specs.Page.{low_bound, begun_by}
use Rattle.exh_legal.specs.ChangeNumbers.{next_notice}
use Rattle.exh_ward.specs.PlacedPages.{with_page, ward_after}
use Rattle.exh_ward.specs.WardState.{WardState}
use Rattle.exh_ward.specs.declared.ward_fault.WardFault.{WardFault}
use Rattle.exh_ward.specs.declared.ward_fault.WardFault.TheVariants.{NoPage, NotLive, NotFull, AtLimit}

-- ---- the halves

-- the number of the page of the right child's low bound: where no page has it, the number after the last
abbrev pub right_number : List Page → List Bool → ℕ
right_number pages prefix = position_or_len (λ page. nat_eq (low_bound page) (low_of (prefix ++ true ∷ []))) pages

abbrev pub left_half : List Bool → ℕ → List Record → Page
left_half prefix right records = Live (prefix ++ false ∷ []) (Some right) (begun_by (prefix ++ false ∷ []) records)

abbrev pub right_half : List Bool → Option ℕ → List Record → Page
right_half prefix link records = Live (prefix ++ true ∷ []) link (begun_by (prefix ++ true ∷ []) records)

-- ---- the refusal, the first that fits, or the notice

abbrev pub split_of_live : {K : Type 0} → WardState K → List Bool → List Record → Result Notice WardFault
split_of_live ward prefix records =
    if nat_lt (length records) ward.cap
    then Err NotFull
    else (if nat_le LIMIT (length prefix) then Err AtLimit else Ok (next_notice ward.number ward.table prefix (Split (right_number ward.pages prefix))))

abbrev pub split_of_page : {K : Type 0} → WardState K → Page → Result Notice WardFault
split_of_page ward (Forward low target) = Err NotLive
split_of_page ward (Live prefix link records) = split_of_live ward prefix records

unfoldable pub split_of : {K : Type 0} → WardState K → ℕ → Result Notice WardFault
split_of ward at = option_map_or (split_of_page ward) (slice_get ward.pages at) (Err NoPage)

-- ---- the ward after it

-- the pages with both halves of a live page in its place
abbrev pub halved : List Page → ℕ → Page → List Page
halved pages at (Forward low target) = pages
halved pages at (Live prefix link records) =
    with_page (right_number pages prefix) (right_half prefix link records) (with_page at (left_half prefix (right_number pages prefix) records) pages)

unfoldable pub ward_after_split : {K : Type 0} → WardState K → ℕ → WardState K
ward_after_split ward at = ward_after ward (split_of ward at) (option_map_or (halved ward.pages at) (slice_get ward.pages at) ward.pages)
