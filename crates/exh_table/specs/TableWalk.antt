-- Walks through a table.
use Rattle.std.specs.Prelude.{ℕ, Bool, if◌then◌else◌, List, [], ◌∷◌, ◌++◌, length, take, drop, Option, Some, None}
use Rattle.std.specs.Option.{option_map_or}
use Rattle.std.specs.FinMap.{get}
use Rattle.exh_prefix.specs.Bits.{word_bits}
use Rattle.exh_prefix.specs.declared.prefix.TheConstants.{LIMIT}
use Rattle.exh_notice.specs.declared.entry.Entry.{Entry}
use Rattle.exh_notice.specs.declared.entry.Kind.{Kind}
use Rattle.exh_notice.specs.declared.entry.Kind.TheVariants.{Split, Merge}
use Rattle.exh_table.specs.declared.leaf.Leaf.{Leaf}
use Rattle.exh_table.specs.Table.{TableMap}

abbrev pub right_of_kind : Kind → Option ℕ
right_of_kind (Split right) = Some right
right_of_kind Merge = None

abbrev pub right_of : Option Entry → Option ℕ
right_of None = None
right_of (Some entry) = right_of_kind entry.kind

-- the right page of the Split that the table has at a prefix: none where it has no entry there, or a Merge
abbrev pub split_at : TableMap → List Bool → Option ℕ
split_at table prefix = right_of (get table prefix)

-- one bit further, over a Split with that right page: over 1 to the right page, over 0 on the same page
abbrev pub step : Leaf → Bool → ℕ → Leaf
step at bit right = record { prefix = at.prefix ++ bit ∷ []; page = if bit then right else at.page }

-- the rest of a walk that has come to a prefix and a page, along the bits that follow: it steps over each Split, and
-- stops where there is none, or no more bits are
abbrev pub walk_on : (List Bool → Option ℕ) → List Bool → Leaf → Leaf
walk_on splits [] at = at
walk_on splits (bit ∷ bits) at = option_map_or (λ right. walk_on splits bits (step at bit right)) (splits at.prefix) at

-- the walk for a pseudokey in a ward: from the ward's prefix with page 0, along the next bits up to LIMIT
abbrev pub walk_in : TableMap → List Bool → ℕ → Leaf
walk_in table ward pseudokey = walk_on (split_at table) (drop (length ward) (take LIMIT (word_bits pseudokey))) (record { prefix = ward; page = 0 })

-- the walk for a pseudokey: in the ward of its leading bits
abbrev pub walk_of : TableMap → ℕ → ℕ → Leaf
walk_of table ward_bits pseudokey = walk_in table (take ward_bits (word_bits pseudokey)) pseudokey
