-- Sent tables that tell a copy nothing new.
use Rattle.std.specs.Prelude.{◌≡◌, ℕ, true, List, [], ◌∷◌, slice_get, Some}
use Rattle.std.specs.Ordering.{nat_cmp}
use Rattle.std.specs.Set.{remove_key}
use Rattle.std.specs.BTreeMap.{is_at}
use Rattle.std.specs.BTreeSet.{BTreeSet, contains}
use Rattle.exh_table.specs.Table.{TableMap}
use Rattle.exh_table.specs.TableOrder.{IsTableUpTo}

-- a table was sent under the place, and is at most the copy's own
abbrev pub IsSentUpTo : List TableMap → TableMap → ℕ → Type 0
IsSentUpTo sent own at = (table : TableMap) × (slice_get sent at ≡ Some table) × IsTableUpTo table own

-- places of sent tables
abbrev pub Places : Type 0
Places = BTreeSet ℕ

-- so is that at each of the places
abbrev pub AreKnown : List TableMap → Places → TableMap → Type 0
AreKnown sent known own = (at : ℕ) → contains nat_cmp known at ≡ true → IsSentUpTo sent own at

-- the place is among them
abbrev pub IsNoted : Places → ℕ → Type 0
IsNoted known place = contains nat_cmp known place ≡ true

-- the places that are left once some are taken out, the last first
abbrev pub places_left : List ℕ → List ℕ → List ℕ
places_left [] places = places
places_left (place ∷ noted) places = remove_key (is_at (nat_cmp place)) (places_left noted places)

-- the known places once some are forgotten, the last first
abbrev pub forgotten : List ℕ → Places → Places
forgotten noted known = record { keys = places_left noted known.keys }
