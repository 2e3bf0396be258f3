-- The world of a new file, and that of given wards.
use Rattle.std.specs.Prelude.{◌≡◌, ℕ, ◌^◌, List, [], length, map, fold, replicate, slice_get, Some}
use Rattle.std.specs.FinMap.{empty}
use Rattle.exh_table.specs.Table.{TableMap}
use Rattle.exh_table.specs.TableOrder.{table_join}
use Rattle.exh_ward.specs.NewWards.{new_wards}
use Rattle.exh_ward.specs.WardState.{WardState}
use Rattle.exh_world.specs.World.{WorldState, changes_in, issued_in}
use Rattle.exh_page.specs.Config.{file_settings}
use Rattle.exh_page.specs.declared.config.Config.{Config}

-- no copy was told of a split, and nothing was sent or begun
abbrev pub new_world : {K : Type 0} → Config K → WorldState K
new_world config = record {
  cap = config.cap;
  ward_bits = config.ward_bits;
  keyer = config.keyer;
  wards = new_wards (file_settings config);
  start = empty;
  noticed = replicate (2 ^ config.ward_bits) 0;
  copies = replicate config.copies empty;
  sent = [];
  in_flight = [];
}

-- ---- of given wards

-- a ward that can be the one of a number: of the world's cap, ward bits and keyer
pub record IsWardFor {K : Type 0} (config : Config K) (number : ℕ) (ward : WardState K) : Type 0 where
  pub cap : ward.cap ≡ config.cap
  pub bits : ward.ward_bits ≡ config.ward_bits
  pub number_is : ward.number ≡ number
  pub keyer : ward.keyer ≡ config.keyer

-- each at the place of its number
abbrev pub AreWardsFor : {K : Type 0} → Config K → List (WardState K) → Type 0
AreWardsFor {K} config wards = (number : ℕ) (ward : WardState K) → slice_get wards number ≡ Some ward → IsWardFor config number ward

-- the wards' tables together
abbrev pub tables_joined : {K : Type 0} → List (WardState K) → TableMap
tables_joined wards = fold table_join empty (map (λ ward. ward.table) wards)

-- each copy has the wards' tables, all notices so far came before, and nothing was sent or begun
abbrev pub world_of_wards : {K : Type 0} → Config K → List (WardState K) → WorldState K
world_of_wards config wards = record {
  cap = config.cap;
  ward_bits = config.ward_bits;
  keyer = config.keyer;
  wards = wards;
  start = tables_joined wards;
  noticed = map (λ ward. length ward.notices) wards;
  copies = replicate config.copies (tables_joined wards);
  sent = [];
  in_flight = [];
}

-- ---- taken apart and made anew

-- a world's settings, with a count of copies
abbrev pub settings_of : {K : Type 0} → WorldState K → ℕ → Config K
settings_of world count = record { cap = world.cap; ward_bits = world.ward_bits; copies = count; keyer = world.keyer }

-- a world of the same wards with so many copies, each at the start table, which is the wards' tables together: their notices all count as issued, and
-- none as a change; nothing was sent or begun
pub record IsMadeAnew {K : Type 0} (old : WorldState K) (count : ℕ) (new : WorldState K) : Type 0 where
  pub settings : settings_of new count ≡ settings_of old count
  pub wards : new.wards ≡ old.wards
  pub start : new.start ≡ tables_joined old.wards
  pub copies : new.copies ≡ replicate count new.start
  pub issued : (number : ℕ) → issued_in new number ≡ issued_in old number
  pub changes : (number : ℕ) → changes_in new number ≡ []
  pub sent : new.sent ≡ []
  pub in_flight : new.in_flight ≡ []
