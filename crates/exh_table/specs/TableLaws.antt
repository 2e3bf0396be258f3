-- Laws of tables, walks, leaves and directories, that the crates above cite.
use Rattle.std.specs.Prelude.{◌≡◌, ◌↔◌, ℕ, ◌<◌, ◌≤◌, ◌^◌, Bool, true, false, List, [], ◌∷◌, ◌++◌, length, take, slice_get, Some, None, IsSome, Contains}
use Rattle.std.specs.FinMap.{entries, get}
use Rattle.exh_prefix.specs.Prefix.{Begins}
use Rattle.exh_prefix.specs.declared.prefix.TheConstants.{LIMIT}
use Rattle.exh_notice.specs.declared.entry.Entry.{Entry}
use Rattle.exh_notice.specs.declared.entry.Kind.{Kind}
use Rattle.exh_notice.specs.declared.entry.Kind.TheVariants.{Split, Merge}
use Rattle.exh_notice.specs.declared.notice.Notice.{Notice}
use Rattle.exh_table.specs.declared.leaf.Leaf.{Leaf}
use Rattle.exh_table.specs.Table.{TableMap, told_by, IsTableOf, table_with, table_at}
use Rattle.exh_table.specs.TableOrder.{table_join}
use Rattle.exh_table.specs.TableWalk.{split_at, walk_in, walk_of}
use Rattle.exh_table.specs.Leaves.{PrefixSet, IsLeafIn, leaves_in, leaves_of, ward_leaves}
use Rattle.exh_table.specs.Directory.{IsName, IsDirectory}

-- ---- tables of sets

-- a table's own entries give that table
abbrev pub OwnEntries : Type 0
OwnEntries = (table : TableMap) → IsTableOf (entries table) table

-- a set with one notice more has the table that took the notice
abbrev pub OneNoticeMore : Type 0
OneNoticeMore = (told : List (List Bool × Entry)) (table : TableMap) (notice : Notice) → IsTableOf told table → IsTableOf (told ++ told_by notice ∷ []) (table_with table notice)

-- the union of two sets has the join of their tables
abbrev pub UnionIsJoin : Type 0
UnionIsJoin = (told others : List (List Bool × Entry)) (table other : TableMap) → IsTableOf told table → IsTableOf others other → IsTableOf (told ++ others) (table_join table other)

-- the members of a set decide its table: neither their order nor how often they stand there
abbrev pub MembersDecide : Type 0
MembersDecide = (told others : List (List Bool × Entry)) (table other : TableMap) → ((pair : List Bool × Entry) → Contains told pair ↔ Contains others pair)
    → IsTableOf told table → IsTableOf others other → table ≡ other

-- to put back what stood where a notice was taken gives the table before
abbrev pub PutBackUndoes : Type 0
PutBackUndoes = (table : TableMap) (notice : Notice) → table_at (table_with table notice) notice.prefix (get table notice.prefix) ≡ table

-- ---- walks and leaves

-- what a walk is, said of the whole of it: it passes splits alone, and stops at LIMIT or where there is none. Its page
-- is the right page of the last split that it passed over a bit 1, and page 0 where it passed none so
pub record IsPath (table : TableMap) (ward : List Bool) (pseudokey : ℕ) (leaf : Leaf) : Type 0 where
  -- the bits that it went over, after the ward's
  pub over : List Bool
  pub along : leaf.prefix ≡ ward ++ over
  pub begins : Begins leaf.prefix pseudokey
  pub short : length leaf.prefix ≤ LIMIT
  pub passes : (n : ℕ) → n < length over → IsSome (split_at table (ward ++ take n over))
  pub stops : length leaf.prefix < LIMIT → split_at table leaf.prefix ≡ None
  pub turned : (n : ℕ) → slice_get over n ≡ Some true → ((later : ℕ) → n < later → later < length over → slice_get over later ≡ Some false) → split_at table (ward ++ take n over) ≡ Some leaf.page
  pub straight : ((n : ℕ) → n < length over → slice_get over n ≡ Some false) → leaf.page ≡ 0

abbrev pub WalksArePaths : Type 0
WalksArePaths = (table : TableMap) (ward : List Bool) (pseudokey : ℕ) → length ward ≤ LIMIT → Begins ward pseudokey → IsPath table ward pseudokey (walk_in table ward pseudokey)

-- the walk for a pseudokey of a ward ends at the one leaf of the ward that begins it
pub record IsParted (table : TableMap) (ward : List Bool) (pseudokey : ℕ) : Type 0 where
  pub name : IsName (leaves_in table ward) pseudokey (walk_in table ward pseudokey).prefix
  pub leaf : (leaf : Leaf) → IsLeafIn table ward leaf → Begins leaf.prefix pseudokey → walk_in table ward pseudokey ≡ leaf

abbrev pub LeavesPart : Type 0
LeavesPart = (table : TableMap) (ward : List Bool) (pseudokey : ℕ) → length ward ≤ LIMIT → pseudokey < 2 ^ 64 → Begins ward pseudokey → IsParted table ward pseudokey

-- the same of all wards: a walk ends at the one leaf that begins its pseudokey
abbrev pub WalksNameLeaves : Type 0
WalksNameLeaves = (table : TableMap) (ward_bits pseudokey : ℕ) → ward_bits ≤ LIMIT → pseudokey < 2 ^ 64 → IsName (leaves_of table ward_bits) pseudokey (walk_of table ward_bits pseudokey).prefix

-- ---- directories

-- a table has a directory, and only one
pub record HasDirectory (table : TableMap) (ward_bits : ℕ) : Type 0 where
  pub names : List (List Bool)
  pub is : IsDirectory (leaves_of table ward_bits) names
  pub only : (others : List (List Bool)) → IsDirectory (leaves_of table ward_bits) others → others ≡ names

abbrev pub OneDirectory : Type 0
OneDirectory = (table : TableMap) (ward_bits : ℕ) → ward_bits ≤ LIMIT → HasDirectory table ward_bits

-- ---- changes

-- a change at a place where it can be made: a split at a leaf shorter than LIMIT, a merge of two leaves of one parent
abbrev pub CanBeMade : PrefixSet → List Bool → Kind → Type 0
CanBeMade leaves at (Split right) = leaves at × (length at < LIMIT)
CanBeMade leaves at Merge = ((bit : Bool) → leaves (at ++ bit ∷ [])) × (length at < LIMIT)

-- where one leaf of a ward begins a pseudokey, one does after a change
abbrev pub ChangesKeepNames : Type 0
ChangesKeepNames = (start : TableMap) (ward : List Bool) (changes : List Notice) (change : Notice) (pseudokey : ℕ) (name : List Bool)
    → CanBeMade (ward_leaves start ward changes) change.prefix change.kind → IsName (ward_leaves start ward changes) pseudokey name
    → (next : List Bool) × IsName (ward_leaves start ward (changes ++ change ∷ [])) pseudokey next
