-- What a split makes of a page, and a merge of two.
use Rattle.std.specs.Prelude.{ℕ, Bool, true, false, List, [], ◌∷◌, ◌++◌, Option, None, Some}
use Rattle.exh_page.specs.declared.page.Page.{Page}
use Rattle.exh_page.specs.declared.page.Page.TheVariants.{Live, Forward}
use Rattle.exh_page.specs.Page.{begun_by, low_bound, records_of}

-- the page of the child of a live page's prefix by a bit, with a right link and the child's share
abbrev pub half_of : Bool → Option ℕ → Page → Page
half_of bit right (Live prefix link records) = Live (prefix ++ bit ∷ []) right (begun_by (prefix ++ bit ∷ []) records)
half_of bit right (Forward low target) = Forward low target

-- the left half of a live page that is split, which links to the page of a number
abbrev pub left_half : ℕ → Page → Page
left_half right page = half_of false (Some right) page

-- the right half, which has the page's right link
abbrev pub right_half : Page → Page
right_half (Live prefix link records) = half_of true link (Live prefix link records)
right_half (Forward low target) = Forward low target

abbrev pub link_of : Page → Option ℕ
link_of (Live prefix link records) = link
link_of (Forward low target) = None

-- the page of a parent, of the records of its left half and of its right one, which gives its link
abbrev pub union : List Bool → Page → Page → Page
union parent page other = Live parent (link_of other) (records_of page ++ records_of other)

-- what is left of a page that was merged into the page of a number
abbrev pub sent_to : ℕ → Page → Page
sent_to number page = Forward (low_bound page) number
