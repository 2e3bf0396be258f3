-- Records that the children of a prefix share out, and those that buddies put together.
use Rattle.std.proofs.Common.{◌≡◌, ℕ, ◌+◌, ◌-◌, ◌^◌, ◌<◌, ◌≤◌, Bool, true, false, List, [], ◌∷◌, ◌++◌, length, inl, inr, refl, sym, ap, ◌∙◌, arith, nat_cmp}
use Rattle.std.specs.declared.cmp.Ordering.TheVariants.{Less, Equal, Greater}
use Rattle.std.specs.List.{AllByRecursion}
use Rattle.std.specs.Cmp.{ranks, nat_cmp_is}
use Rattle.std.specs.Cmp.Lexicographic.{slice_cmp}
use Rattle.std.specs.Ordering.{MatchOrdering, ordering_then}
use Rattle.std.proofs.lemmas.List.{length-append, length_push}
use Rattle.exh_prefix.specs.Bits.{word_bits}
use Rattle.exh_prefix.specs.Prefix.{Begins, begins}
use Rattle.exh_prefix.specs.PrefixLemmas.{is_front-true, not_front, IsFront-from_test, begins_low, low_of-child, child_of_begun, one_child_begins, parent_begins}
use Rattle.exh_prefix.specs.PrefixListLemmas.{AllByRecursion-append, AllByRecursion-weaker, AllByRecursion-filter, filter-passes}
use Rattle.exh_page.specs.declared.record.Record.{Record}
use Rattle.exh_page.specs.Place.{place_cmp, place_of}
use Rattle.exh_page.specs.Page.{AreRecordsOf, begun_by}
use Rattle.exh_page.specs.Records.{IsRising}
use Rattle.exh_page.specs.RecordsLemmas.{IsRising-filter}

-- the pseudokeys are numbers of 64 bits
abbrev pub AreWords : List Record → Type 0
AreWords records = AllByRecursion (λ r. r.pseudokey < 2 ^ 64) records

pub AreWords-hashed : (pseudo : List ℕ → ℕ) → ((key : List ℕ) → pseudo key < 2 ^ 64) → (records : List Record) → AllByRecursion (λ r. r.pseudokey ≡ pseudo r.key) records → AreWords records
AreWords-hashed pseudo fits records hashed = AllByRecursion-weaker _ _ (λ r is. omega (arith, is, fits r.key)) records hashed

-- ---- the share of one child

-- what a page's records are holds of those that a longer prefix begins
pub AreRecordsOf-begun_by : (pseudo : List ℕ → ℕ) (prefix child : List Bool) (records : List Record) → AreRecordsOf pseudo prefix records → AreRecordsOf pseudo child (begun_by child records)
AreRecordsOf-begun_by pseudo prefix child records are = record {
  rising = IsRising-filter _ records are.rising;
  hashed = AllByRecursion-filter _ _ records are.hashed;
  begun = filter-passes (λ r. begins child r.pseudokey) _ (λ r is. IsFront-from_test child (word_bits r.pseudokey) is) records;
}

-- ---- both shares together

-- a record that stands before another has no greater pseudokey
pub pseudokeys_rise : (r s : Record) → place_cmp (place_of r) (place_of s) ≡ Less → r.pseudokey ≤ s.pseudokey
pseudokeys_rise r s before =
    elim (nat_cmp r.pseudokey s.pseudokey) as (λ o. MatchOrdering o (r.pseudokey < s.pseudokey) (r.pseudokey ≡ s.pseudokey) (s.pseudokey < r.pseudokey) → ordering_then o (slice_cmp nat_cmp r.key s.key) ≡ Less → r.pseudokey ≤ s.pseudokey) [
      | Less ↦ λ rank less. omega arith
      | Equal ↦ λ rank less. omega arith
      | Greater ↦ λ rank less. cc
    ] (ranks r.pseudokey s.pseudokey) before

-- a record of a lesser pseudokey stands before another
stands_before : (r s : Record) → r.pseudokey < s.pseudokey → place_cmp (place_of r) (place_of s) ≡ Less
stands_before r s less = ap (λ o. ordering_then o (slice_cmp nat_cmp r.key s.key)) (sym (nat_cmp_is r.pseudokey s.pseudokey Less less))

-- of two children of a prefix, the left one's pseudokeys are all below the right one's
left_below_right : (prefix : List Bool) (one other : ℕ) → length prefix < 64 → one < 2 ^ 64 → other < 2 ^ 64 → Begins (prefix ++ false ∷ []) one → Begins (prefix ++ true ∷ []) other → one < other
left_below_right prefix one other short one_fits other_fits left right =
    let left_length : length (prefix ++ false ∷ []) ≡ length prefix + 1 = length_push prefix false in
    let right_length : length (prefix ++ true ∷ []) ≡ length prefix + 1 = length_push prefix true in
    let least = low_of-child prefix true short in
    let most = low_of-child prefix false short in
    let same : 64 - length (prefix ++ false ∷ []) ≡ 63 - length prefix = omega arith in
    omega (arith, (begins_low (prefix ++ false ∷ []) one (omega arith) one_fits left).1, (begins_low (prefix ++ true ∷ []) other (omega arith) other_fits right).0, least, most, ap (λ n. 2 ^ n) same)

-- the left child begins none of the records after one of the right child's
none_left : (prefix : List Bool) (r : Record) (records : List Record) → length prefix < 64 → r.pseudokey < 2 ^ 64 → AreWords records → Begins (prefix ++ true ∷ []) r.pseudokey
    → AllByRecursion (λ s. place_cmp (place_of r) (place_of s) ≡ Less) records → begun_by (prefix ++ false ∷ []) records ≡ []
none_left prefix r [] short fits words right later = refl
none_left prefix r (s ∷ records) short fits words right later =
    let outside : begins (prefix ++ false ∷ []) s.pseudokey ≡ false =
    not_front (prefix ++ false ∷ []) (word_bits s.pseudokey) (λ left. omega (arith, pseudokeys_rise r s later.0, left_below_right prefix s.pseudokey r.pseudokey short words.0 fits left right)) in
    rw outside (none_left prefix r records short fits words.1 right later.1)

-- the records that a prefix begins are those of its left child, and then those of its right child
pub begun_by-children : (prefix : List Bool) (records : List Record) → length prefix < 64 → IsRising records → AreWords records → AllByRecursion (λ r. Begins prefix r.pseudokey) records
    → begun_by (prefix ++ false ∷ []) records ++ begun_by (prefix ++ true ∷ []) records ≡ records
begun_by-children prefix [] short rising words begun = refl
begun_by-children prefix (r ∷ records) short rising words begun =
    let rest = begun_by-children prefix records short rising.1 words.1 begun.1 in
    elim (child_of_begun prefix r.pseudokey short begun.0) [
      | inl left ↦
          let here : begins (prefix ++ false ∷ []) r.pseudokey ≡ true = is_front-true (prefix ++ false ∷ []) (word_bits r.pseudokey) left in
          let other : begins (prefix ++ true ∷ []) r.pseudokey ≡ false = not_front (prefix ++ true ∷ []) (word_bits r.pseudokey) (λ right. one_child_begins prefix r.pseudokey left right) in
          rw (here, other) (ap (λ records. r ∷ records) rest)
      | inr right ↦
          let here : begins (prefix ++ true ∷ []) r.pseudokey ≡ true = is_front-true (prefix ++ true ∷ []) (word_bits r.pseudokey) right in
          let other : begins (prefix ++ false ∷ []) r.pseudokey ≡ false = not_front (prefix ++ false ∷ []) (word_bits r.pseudokey) (λ left. one_child_begins prefix r.pseudokey left right) in
          let none = none_left prefix r records short words.0 words.1 right rising.0 in
          let all : begun_by (prefix ++ true ∷ []) records ≡ records = ap (λ front. front ++ begun_by (prefix ++ true ∷ []) records) (sym none) ∙ rest in
          rw (other, here, none, all) refl
    ]

pub length-children : (prefix : List Bool) (records : List Record) → length prefix < 64 → IsRising records → AreWords records → AllByRecursion (λ r. Begins prefix r.pseudokey) records
    → length (begun_by (prefix ++ false ∷ []) records) + length (begun_by (prefix ++ true ∷ []) records) ≡ length records
length-children prefix records short rising words begun =
    sym (length-append (begun_by (prefix ++ false ∷ []) records) (begun_by (prefix ++ true ∷ []) records)) ∙ ap length (begun_by-children prefix records short rising words begun)

-- ---- what buddies hold together

-- lists of which one's pseudokeys are all below the other's rise as one
IsRising-append : (front back : List Record) → IsRising front → IsRising back → AllByRecursion (λ r. AllByRecursion (λ s. place_cmp (place_of r) (place_of s) ≡ Less) back) front → IsRising (front ++ back)
IsRising-append [] back fore aft before = aft
IsRising-append (r ∷ front) back fore aft before = (AllByRecursion-append _ front back fore.0 before.0, IsRising-append front back fore.1 aft before.1)

pub both : (P Q : Record → Type 0) (records : List Record) → AllByRecursion P records → AllByRecursion Q records → AllByRecursion (λ r. P r × Q r) records
both P Q [] p q = tt
both P Q (r ∷ records) p q = ((p.0, q.0), both P Q records p.1 q.1)

pub AreRecordsOf-buddies : (pseudo : List ℕ → ℕ) (prefix : List Bool) (left right : List Record) → length prefix < 64 → ((key : List ℕ) → pseudo key < 2 ^ 64)
    → AreRecordsOf pseudo (prefix ++ false ∷ []) left → AreRecordsOf pseudo (prefix ++ true ∷ []) right → AreRecordsOf pseudo prefix (left ++ right)
AreRecordsOf-buddies pseudo prefix left right short fits fore aft =
    let words = both _ _ left (AreWords-hashed pseudo fits left fore.hashed) fore.begun in
    let later = both _ _ right (AreWords-hashed pseudo fits right aft.hashed) aft.begun in
    record {
      rising = IsRising-append left right fore.rising aft.rising
          (AllByRecursion-weaker _ _
          (λ r is. AllByRecursion-weaker _ _ (λ s more. stands_before r s (left_below_right prefix r.pseudokey s.pseudokey short is.0 more.0 is.1 more.1)) right later)
          left words);
      hashed = AllByRecursion-append _ left right fore.hashed aft.hashed;
      begun = AllByRecursion-append _ left right
          (AllByRecursion-weaker _ _ (λ r is. parent_begins prefix r.pseudokey false is) left fore.begun)
          (AllByRecursion-weaker _ _ (λ r is. parent_begins prefix r.pseudokey true is) right aft.begun);
    }
