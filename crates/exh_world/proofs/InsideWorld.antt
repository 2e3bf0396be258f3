-- The world that its struct holds.
use Rattle.std.proofs.Common.{◌≡◌, ◌<◌, ℕ, arith}
use Rattle.std.specs.Prelude.{slice_set}
use Rattle.exh_array.specs.Copies.{CopiesState}
use Rattle.exh_ward.specs.WardState.{WardState}
use Rattle.exh_world.specs.InFlight.{Requests}
use Rattle.exh_world.specs.World.{WorldState}
use Rattle.exh_world.specs.declared.world.World.TheInside.{Inside}

abbrev pub world_of : {P K : Type 0} → Inside P K → WorldState K
world_of i = record { cap = i.cap; ward_bits = i.ward_bits; keyer = i.keyer; wards = i.wards.items; start = i.copies.start; noticed = i.noticed.items; copies = i.copies.copies; sent = i.copies.sent; in_flight = i.in_flight }

-- the world with a ward as a call left it, and these requests
abbrev pub with_ward : {P K : Type 0} → Inside P K → ℕ → WardState K → Requests → WorldState K
with_ward i at left requests = record (world_of i) { wards = slice_set i.wards.items at left; in_flight = requests }

-- the world with its copies as a call left them
abbrev pub with_copies : {P K : Type 0} → Inside P K → CopiesState → WorldState K
with_copies i copies = record (world_of i) { start = copies.start; copies = copies.copies; sent = copies.sent }

-- a place in a list of which one knows the length
pub within_len : (at len count : ℕ) → len ≡ count → at < count → at < len
within_len at len count whole within = omega (arith, whole, within)
