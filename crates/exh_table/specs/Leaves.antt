-- The leaves of a table, and how changes turn them.
use Rattle.std.specs.Prelude.{◌≡◌, ◌≢◌, ◌⊎◌, ◌↔◌, ℕ, ◌<◌, ◌^◌, Bool, List, [], ◌∷◌, ◌++◌, map, Contains}
use Rattle.std.specs.List.Sorted.{IsStrictlySortedBy}
use Rattle.exh_prefix.specs.Prefix.{Begins, prefix_cmp}
use Rattle.exh_notice.specs.declared.entry.Kind.{Kind}
use Rattle.exh_notice.specs.declared.entry.Kind.TheVariants.{Split, Merge}
use Rattle.exh_notice.specs.declared.notice.Notice.{Notice}
use Rattle.exh_table.specs.declared.leaf.Leaf.{Leaf}
use Rattle.exh_table.specs.Table.{TableMap}
use Rattle.exh_table.specs.TableWalk.{walk_in, walk_of}

-- ---- of a table

-- the walk for some pseudokey of the ward stops there
abbrev pub IsLeafIn : TableMap → List Bool → Leaf → Type 0
IsLeafIn table ward leaf = (pseudokey : ℕ) × (pseudokey < 2 ^ 64) × Begins ward pseudokey × (walk_in table ward pseudokey ≡ leaf)

-- the same in all wards of so many bits
abbrev pub IsLeaf : TableMap → ℕ → Leaf → Type 0
IsLeaf table ward_bits leaf = (pseudokey : ℕ) × (pseudokey < 2 ^ 64) × (walk_of table ward_bits pseudokey ≡ leaf)

-- all leaves, each once, in the order of prefixes
pub record AreLeaves (table : TableMap) (ward_bits : ℕ) (leaves : List Leaf) : Type 0 where
  pub each : (leaf : Leaf) → Contains leaves leaf ↔ IsLeaf table ward_bits leaf
  pub ordered : IsStrictlySortedBy prefix_cmp (map (λ leaf. leaf.prefix) leaves)

-- ---- the prefixes of leaves, as a set

-- the prefixes of the set
abbrev pub PrefixSet : Type 1
PrefixSet = List Bool → Type 0

abbrev pub leaves_in : TableMap → List Bool → PrefixSet
leaves_in table ward prefix = (page : ℕ) × IsLeafIn table ward (record { prefix = prefix; page = page })

abbrev pub leaves_of : TableMap → ℕ → PrefixSet
leaves_of table ward_bits prefix = (page : ℕ) × IsLeaf table ward_bits (record { prefix = prefix; page = page })

-- a split takes the prefix out and puts its two children in
abbrev pub after_split : PrefixSet → List Bool → PrefixSet
after_split leaves split prefix = (leaves prefix × (prefix ≢ split)) ⊎ ((bit : Bool) × (prefix ≡ split ++ bit ∷ []))

-- a merge takes the two children out and puts the prefix in
abbrev pub after_merge : PrefixSet → List Bool → PrefixSet
after_merge leaves merged prefix = (leaves prefix × ((bit : Bool) → prefix ≢ merged ++ bit ∷ [])) ⊎ (prefix ≡ merged)

abbrev pub after_kind : PrefixSet → List Bool → Kind → PrefixSet
after_kind leaves at (Split right) = after_split leaves at
after_kind leaves at Merge = after_merge leaves at

-- what the changes, in their order, leave of the leaves
abbrev pub leaves_after : PrefixSet → List Notice → PrefixSet
leaves_after leaves [] = leaves
leaves_after leaves (change ∷ changes) = leaves_after (after_kind leaves change.prefix change.kind) changes

-- the leaves of a ward: those of its start table, after the changes since
abbrev pub ward_leaves : TableMap → List Bool → List Notice → PrefixSet
ward_leaves start ward changes = leaves_after (leaves_in start ward) changes
