-- What a replica is worth, by all that it was given.
use Rattle.std.specs.Prelude.{◌≡◌, ◌↔◌, List, [], ◌∷◌, ◌++◌, Contains}

-- how a replica came by its value: it began with one, then took values and was combined with other replicas
pub data History (V : Type 0) : Type 0 where
  Began : (start : V) → History V
  Took : (before : History V) → (value : V) → History V
  Combined : (before : History V) → (other : History V) → History V

-- the replica's value, by the contracts of `new`, `take` and `combine`
abbrev pub value_after : {V : Type 0} → (V → V → V) → History V → V
value_after join (Began start) = start
value_after join (Took before value) = join (value_after join before) value
value_after join (Combined before other) = join (value_after join before) (value_after join other)

-- the values that it took, by itself and through the replicas that it was combined with, these through others, and so on
abbrev pub taken : {V : Type 0} → History V → List V
taken (Began start) = []
taken (Took before value) = taken before ++ value ∷ []
taken (Combined before other) = taken before ++ taken other

-- the replica began with this value, and so did all the others
abbrev pub AllBegan : {V : Type 0} → V → History V → Type 0
AllBegan start (Began value) = value ≡ start
AllBegan start (Took before value) = AllBegan start before
AllBegan start (Combined before other) = AllBegan start before × AllBegan start other

-- one set of values, in any order and each as often as one likes
abbrev pub SameMembers : {V : Type 0} → List V → List V → Type 0
SameMembers {V} one other = (x : V) → Contains one x ↔ Contains other x

-- replicas that began equal and took the same set of values, in whatever order, however often and through whatever other
-- replicas, are equal
abbrev pub ReplicasAgree : {V : Type 0} → (V → V → V) → Type 0
ReplicasAgree {V} join = (start : V) (one other : History V) → AllBegan start one → AllBegan start other → SameMembers (taken one) (taken other)
    → value_after join one ≡ value_after join other
