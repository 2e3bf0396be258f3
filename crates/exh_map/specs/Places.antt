-- The low bounds of the pages of a file of version 3 in their places: a page that has a place keeps it, and the others come behind, ward by ward.
use Rattle.std.specs.Prelude.{ℕ, zero, suc, ◌==◌, List, [], ◌++◌, Option, None, Some, count_by, drop, length, map, slice_get}
use Rattle.exh_prefix.specs.Leading.{ward_of}
use Rattle.exh_page.specs.Page.{low_bound}
use Rattle.exh_ward.specs.WardState.{WardState}

-- the low bounds of a ward's pages, page 0 first
abbrev pub lows_of : {K : Type 0} → WardState K → List ℕ
lows_of ward = map low_bound ward.pages

-- how many of some low bounds are of the pages of the ward of a number
abbrev pub count_of : ℕ → ℕ → List ℕ → ℕ
count_of bits number lows = count_by (λ low. ward_of bits low == number) lows

-- those of the pages of a ward that have no place yet: its first pages have these
abbrev pub others_of : {K : Type 0} → ℕ → List ℕ → ℕ → Option (WardState K) → List ℕ
others_of bits lows number None = []
others_of bits lows number (Some ward) = drop (count_of bits number lows) (lows_of ward)

-- the same of the first so many wards
abbrev pub others_to : {K : Type 0} → ℕ → List ℕ → List (WardState K) → ℕ → List ℕ
others_to bits lows wards zero = []
others_to bits lows wards (suc number) = others_to bits lows wards number ++ others_of bits lows number (slice_get wards number)

abbrev pub lows_in_places : {K : Type 0} → ℕ → List ℕ → List (WardState K) → List ℕ
lows_in_places bits lows wards = lows ++ others_to bits lows wards (length wards)
