-- Where the blocks of a page file of version 3 stand, counted from 0, the header's.
use Rattle.std.specs.Prelude.{ℕ, ◌+◌, ◌-◌, ◌*◌, ◌/◌}
use Rattle.exh_cells.specs.declared.places.TheConstants.{GROUP_PAGES}

-- the group of the page at a place
abbrev pub group_in : ℕ → ℕ
group_in place = place / GROUP_PAGES

-- a group is its walk block, and behind it its pages; before the groups there is the header
abbrev pub walk_block_of : ℕ → ℕ
walk_block_of group = 1 + (GROUP_PAGES + 1) * group

abbrev pub page_block_of : ℕ → ℕ
page_block_of place = 2 + place + group_in place

-- so many pages have so many groups, the last of which may be short
abbrev pub groups_of : ℕ → ℕ
groups_of pages = (pages + (GROUP_PAGES - 1)) / GROUP_PAGES

-- the first block behind the last page
abbrev pub end_block_of : ℕ → ℕ
end_block_of pages = 1 + pages + groups_of pages
