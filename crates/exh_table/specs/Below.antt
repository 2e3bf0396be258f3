-- The tree of prefixes below a place, as walks go through it.
use Rattle.std.specs.Prelude.{ℕ, zero, suc, nat_lt, Bool, true, false, if◌then◌else◌, List, [], ◌∷◌, ◌++◌, length, Option, Some, max}
use Rattle.std.specs.Option.{option_map_or}
use Rattle.exh_prefix.specs.declared.prefix.TheConstants.{LIMIT}
use Rattle.exh_table.specs.declared.leaf.Leaf.{Leaf}
use Rattle.exh_table.specs.Table.{TableMap}
use Rattle.exh_table.specs.TableWalk.{split_at, step}

-- the splits of a table, and above the wards a split everywhere, whose right page is page 0
abbrev pub splits_above : TableMap → ℕ → List Bool → Option ℕ
splits_above table ward_bits prefix = if nat_lt (length prefix) ward_bits then Some 0 else split_at table prefix

-- the leaves at most so many bits further, in order
abbrev pub leaves_below : (List Bool → Option ℕ) → ℕ → Leaf → List Leaf
leaves_below splits zero at = at ∷ []
leaves_below splits (suc n) at = option_map_or (λ right. leaves_below splits n (step at false right) ++ leaves_below splits n (step at true right)) (splits at.prefix) (at ∷ [])

-- their greatest length
abbrev pub depth_below : (List Bool → Option ℕ) → ℕ → Leaf → ℕ
depth_below splits zero at = length at.prefix
depth_below splits (suc n) at = option_map_or (λ right. max (depth_below splits n (step at false right)) (depth_below splits n (step at true right))) (splits at.prefix) (length at.prefix)

-- the leaves of all wards of so many bits, in order
unfoldable pub leaves_listed : TableMap → ℕ → List Leaf
leaves_listed table ward_bits = leaves_below (splits_above table ward_bits) LIMIT (record { prefix = []; page = 0 })

-- the depth over all wards of so many bits
unfoldable pub depth_of : TableMap → ℕ → ℕ
depth_of table ward_bits = depth_below (splits_above table ward_bits) LIMIT (record { prefix = []; page = 0 })
