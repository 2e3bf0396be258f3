-- What a world keeps beside being sound.
use Rattle.std.specs.Prelude.{◌≡◌, ℕ, ◌+◌, ◌-◌, ◌^◌, ◌<◌, ◌≤◌, List, length, slice_get, Some}
use Rattle.exh_notice.specs.declared.notice.Notice.{Notice}
use Rattle.exh_prefix.specs.declared.prefix.TheConstants.{WARD_BITS_LIMIT}
use Rattle.exh_world.specs.Sound.{IsSoundWorld}
use Rattle.exh_world.specs.World.{WorldState, numbered}

-- the world is sound, and its numbers have room
pub record IsKeptWorld {K : Type 0} (pseudokey_of : K → List ℕ → ℕ) (world : WorldState K) : Type 0 where
  pub sound : IsSoundWorld pseudokey_of world
  pub few_wards : world.ward_bits ≤ WARD_BITS_LIMIT
  pub few_sent : length world.sent < 2 ^ 32

-- the notices' indexes follow on one another
abbrev pub HaveIndexesInTurn : List Notice → Type 0
HaveIndexesInTurn notices = (first : ℕ) × ((place : ℕ) (notice : Notice) → slice_get notices place ≡ Some notice → notice.index ≡ first + place)

-- the place in a list of the item that has a number, from 1 on
abbrev pub IsPlaceOf : {A : Type 0} → List A → ℕ → ℕ → Type 0
IsPlaceOf items number place = (place ≡ number - 1) × (place < length items) × (numbered items number ≡ slice_get items place)
