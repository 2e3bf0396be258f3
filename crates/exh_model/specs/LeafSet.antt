-- A finite set of leaves, as one of the sets of prefixes that the directory's definitions speak of.
use Rattle.std.specs.Prelude.{◌↔◌, Bool, List, IsTrue, Contains}
use Rattle.std.specs.List.Sorted.{IsStrictlySortedBy}
use Rattle.std.specs.FinSet.{FinSet, contains}
use Rattle.exh_prefix.specs.Prefix.{prefix_cmp}
use Rattle.exh_table.specs.Leaves.{PrefixSet}

-- the prefixes that are in the finite set
abbrev pub members : FinSet prefix_cmp → PrefixSet
members leaves prefix = IsTrue (contains leaves prefix)

-- the sets have the same prefixes
abbrev pub AreSame : PrefixSet → PrefixSet → Type 0
AreSame one other = (prefix : List Bool) → one prefix ↔ other prefix

-- the list has the leaves in prefix order, each once
pub record ListsLeaves (leaves : FinSet prefix_cmp) (prefixes : List (List Bool)) : Type 0 where
  pub rising : IsStrictlySortedBy prefix_cmp prefixes
  pub same : AreSame (Contains prefixes) (members leaves)
