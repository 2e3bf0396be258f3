-- Laws of prefixes that the crates above cite.
use Rattle.std.specs.Prelude.{◌≡◌, ℕ, ◌+◌, ◌-◌, ◌^◌, ◌<◌, ◌≤◌, ◌↔◌, ◌⊎◌, Bool, true, false, List, [], ◌∷◌, ◌++◌, length, IsTrue}
use Rattle.std.specs.declared.cmp.Ordering.TheVariants.{Equal}
use Rattle.std.specs.Cmp.{IsTotalOrder}
use Rattle.exh_prefix.specs.Bits.{number_of, lowest_cleared}
use Rattle.exh_prefix.specs.Leading.{leading}
use Rattle.exh_prefix.specs.Prefix.{IsFront, Begins, low_of, prefix_cmp}
use Rattle.exh_prefix.specs.declared.prefix.TheConstants.{LIMIT}

-- a prefix begins the pseudokeys from its low bound on, as many as the bits that it leaves open tell apart
abbrev pub BeginsItsRange : Type 0
BeginsItsRange = (prefix : List Bool) (pseudokey : ℕ) → length prefix ≤ LIMIT → pseudokey < 2 ^ 64
    → Begins prefix pseudokey ↔ ((low_of prefix ≤ pseudokey) × (pseudokey < low_of prefix + 2 ^ (64 - length prefix)))

-- of two prefixes that begin one pseudokey, one begins the other
abbrev pub BeginnersNest : Type 0
BeginnersNest = (one other : List Bool) (pseudokey : ℕ) → Begins one pseudokey → Begins other pseudokey → IsFront one other ⊎ IsFront other one

-- what a prefix begins, one of its children begins, and only one; and a child begins nothing else
pub record IsPartedByChildren (parent : List Bool) (pseudokey : ℕ) : Type 0 where
  pub one : Begins parent pseudokey → Begins (parent ++ false ∷ []) pseudokey ⊎ Begins (parent ++ true ∷ []) pseudokey
  pub not_both : Begins (parent ++ false ∷ []) pseudokey → Begins (parent ++ true ∷ []) pseudokey → ⊥
  pub none_else : (bit : Bool) → Begins (parent ++ bit ∷ []) pseudokey → Begins parent pseudokey

abbrev pub ChildrenPart : Type 0
ChildrenPart = (parent : List Bool) (pseudokey : ℕ) → length parent < LIMIT → IsPartedByChildren parent pseudokey

-- a prefix begins exactly the pseudokeys whose leading bits, as many as its own, spell the same number
abbrev pub LeadingBitsTell : Type 0
LeadingBitsTell = (prefix : List Bool) (pseudokey : ℕ) → length prefix ≤ LIMIT → Begins prefix pseudokey ↔ (leading (length prefix) pseudokey ≡ number_of prefix)

-- the low bound of a right child, its lowest set bit cleared, is its parent's
abbrev pub RightChildClears : Type 0
RightChildClears = (parent : List Bool) → length parent < LIMIT → lowest_cleared (low_of (parent ++ true ∷ [])) ≡ low_of parent

-- a left child has its parent's low bound
abbrev pub LeftChildKeepsLow : Type 0
LeftChildKeepsLow = (parent : List Bool) → length parent < LIMIT → low_of (parent ++ false ∷ []) ≡ low_of parent

-- the order is total, and ties are equal
abbrev pub OrderIsTotal : Type 0
OrderIsTotal = IsTotalOrder prefix_cmp × ((one other : List Bool) → (prefix_cmp one other ≡ Equal) ↔ (one ≡ other))

-- the test passes exactly where the values are the same
abbrev pub DecidesEquality : {A : Type 0} → (A → A → Bool) → Type 0
DecidesEquality {A} eq = (one other : A) → IsTrue (eq one other) ↔ (one ≡ other)
