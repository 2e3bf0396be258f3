-- A world: the wards of a file, the copies of its directory, the tables sent between them, and the requests in flight.
use Rattle.std.specs.Prelude.{ℕ, zero, suc, List, [], drop, flat_map, slice_get, Option, None}
use Rattle.std.specs.Option.{option_map_or}
use Rattle.exh_prefix.specs.Leading.{ward_prefix}
use Rattle.exh_notice.specs.declared.notice.Notice.{Notice}
use Rattle.exh_table.specs.Table.{TableMap}
use Rattle.exh_table.specs.Leaves.{PrefixSet, ward_leaves}
use Rattle.exh_page.specs.KeyMap.{KeyMap}
use Rattle.exh_legal.specs.Pages.{map_of}
use Rattle.exh_ward.specs.WardState.{WardState}
use Rattle.exh_world.specs.InFlight.{Requests}

pub record WorldState (K : Type 0) : Type 0 where
  pub cap : ℕ
  pub ward_bits : ℕ
  pub keyer : K
  pub wards : List (WardState K)
  -- the wards' tables when the world was made, and how many notices each ward had then
  pub start : TableMap
  pub noticed : List ℕ
  pub copies : List TableMap
  pub sent : List TableMap
  pub in_flight : Requests

-- copies and sent tables are numbered from 1 on
abbrev pub numbered : {A : Type 0} → List A → ℕ → Option A
numbered items zero = None
numbered items (suc number) = slice_get items number

-- ---- what the world holds

-- the notices of a ward, all of which count as issued
abbrev pub issued_in : {K : Type 0} → WorldState K → ℕ → List Notice
issued_in world number = option_map_or (λ ward. ward.notices) (slice_get world.wards number) []

-- the changes of a ward: its notices since the world was made
abbrev pub changes_in : {K : Type 0} → WorldState K → ℕ → List Notice
changes_in world number = option_map_or (λ noticed. drop noticed (issued_in world number)) (slice_get world.noticed number) []

-- the leaves of the current directory that belong to a ward
abbrev pub current_leaves : {K : Type 0} → WorldState K → ℕ → PrefixSet
current_leaves world number = ward_leaves world.start (ward_prefix world.ward_bits number) (changes_in world number)

-- the map of all records of all wards
abbrev pub map_in : {K : Type 0} → WorldState K → KeyMap
map_in world = map_of (flat_map (λ ward. ward.pages) world.wards)
