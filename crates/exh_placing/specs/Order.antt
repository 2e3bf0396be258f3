-- Orders of the pages of all wards.
use Rattle.std.specs.Prelude.{◌≡◌, ℕ, ◌-◌, ◌<◌, ◌≤◌, nat_eq, List, ◌++◌, length, map, take, get_or, slice_get, Some}
use Rattle.std.specs.List.{count_by, flat_map, range_with_len}
use Rattle.exh_prefix.specs.Leading.{ward_of}
use Rattle.exh_placing.specs.declared.page_at.PageAt.{PageAt}

-- how many pages of an order are a ward's
abbrev pub own_in : List PageAt → ℕ → ℕ
own_in order ward = count_by (λ page. nat_eq page.ward ward) order

-- the number of each page is how many of its ward stand before it
abbrev pub IsNumbered : List PageAt → Type 0
IsNumbered order = (place : ℕ) (page : PageAt) → slice_get order place ≡ Some page → page.number ≡ own_in (take place order) page.ward

-- each page of wards that have so many stands in it once, a ward's in the order of their numbers
pub record IsOrderOf (counts : List ℕ) (order : List PageAt) : Type 0 where
  pub numbered : IsNumbered order
  pub counted : (ward : ℕ) → own_in order ward ≡ get_or counts ward 0

-- no ward has fewer pages than stand in the order
abbrev pub IsWithin : List ℕ → List PageAt → Type 0
IsWithin counts order = (ward : ℕ) → own_in order ward ≤ get_or counts ward 0

-- ---- whole orders

abbrev pub page_at : ℕ → ℕ → PageAt
page_at ward number = record { ward = ward; number = number }

-- the pages of a ward from a number on, to below another
abbrev pub pages_between : ℕ → ℕ → ℕ → List PageAt
pages_between ward from to = map (page_at ward) (range_with_len from (to - from))

-- the first places are those of the wards' pages 0
abbrev pub BeginsWithFirsts : ℕ → List PageAt → Type 0
BeginsWithFirsts wards order = (ward : ℕ) → ward < wards → slice_get order ward ≡ Some (page_at ward 0)

-- an order, and behind it the other pages of wards that have so many, ward by ward
abbrev pub with_others : List ℕ → List PageAt → List PageAt
with_others counts order = order ++ flat_map (λ ward. pages_between ward (own_in order ward) (get_or counts ward 0)) (range_with_len 0 (length counts))

-- the first pages of so many wards
abbrev pub first_pages : ℕ → List PageAt
first_pages wards = map (λ ward. page_at ward 0) (range_with_len 0 wards)

-- the pages of these low bounds, in their order
pub record IsOrderOfLows (ward_bits : ℕ) (lows : List ℕ) (order : List PageAt) : Type 0 where
  pub numbered : IsNumbered order
  pub wards : map (λ page. page.ward) order ≡ map (ward_of ward_bits) lows
