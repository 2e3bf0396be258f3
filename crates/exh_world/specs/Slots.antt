-- How requests in flight are kept: each in a slot, by how many were begun before it. Its slot is marked once it is
-- answered.
use Rattle.std.specs.Prelude.{◌≡◌, ℕ, ◌<◌, nat_eq, false, List, [], ◌∷◌, Option, Some, if◌then◌else◌}
use Rattle.std.specs.List.{All}
use Rattle.std.specs.Map.{lookup}
use Rattle.exh_world.specs.InFlight.{Requests}
use Rattle.exh_world.specs.declared.slot.Slot.{Slot}

-- a request that isn't answered, before others
abbrev pub before_others : Slot → Requests → Requests
before_others slot requests = if slot.is_answered then requests else (slot.name, slot.request) ∷ requests

-- the requests that aren't answered, in the order begun
abbrev pub standing_in : List (ℕ × Slot) → Requests
standing_in [] = []
standing_in (e ∷ slots) = before_others e.1 (standing_in slots)

-- at its place the name's request stands
pub record StandsAt (slots : List (ℕ × Slot)) (name place : ℕ) : Type 0 where
  pub slot : Slot
  pub there : lookup (nat_eq place) slots ≡ Some slot
  pub own : slot.name ≡ name
  pub stands : slot.is_answered ≡ false

-- the slots are some of so many that were begun, and each name in flight has its place
pub record AreKept (slots : List (ℕ × Slot)) (place_of : ℕ → Option ℕ) (begun : ℕ) : Type 0 where
  pub before : All (λ (e : ℕ × Slot). e.0 < begun) slots
  pub named : All (λ (e : ℕ × Slot). e.1.is_answered ≡ false → place_of e.1.name ≡ Some e.0) slots
  pub standing : (name place : ℕ) → place_of name ≡ Some place → StandsAt slots name place
