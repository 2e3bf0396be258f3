-- Lists of leaves as sets of prefixes.
use Rattle.std.proofs.Common.{◌≡◌, ℕ, zero, suc, ◌+◌, ◌<◌, Bool, true, false, cond, not, ◌&&◌, ◌||◌, List, [], ◌∷◌, ◌++◌, length, filter, get_or, take, Contains, nat_eq, refl, sym, ap, subst, ◌∙◌, arith, inl, inr}
use Rattle.std.specs.declared.cmp.Ordering.TheVariants.{Less, Equal, Greater}
use Rattle.std.specs.List.{list_any, dedup}
use Rattle.std.specs.List.Sorted.{IsPermutation, IsSorted}
use Rattle.std.specs.List.Retain.{IsFiltered, DiffersFromLast}
use Rattle.std.specs.FinSet as set
use Rattle.std.specs.Ordering.{is_eq, eq_by_cmp}
use Rattle.std.proofs.lemmas.Bool.{true≢false, and_parts}
use Rattle.std.proofs.lemmas.Cmp.{tied_itself, eq_by_cmp_equiv}
use Rattle.std.proofs.lemmas.List.{take_more}
use Rattle.std.proofs.lemmas.List.Elements.{Contains-push, Contains-push_cases, Contains-append_left, Contains-append_right, All-contains, All-filter, filter_passes, All-contains_itself}
use Rattle.std.proofs.lemmas.List.Filters.{dedup_is}
use Rattle.std.proofs.lemmas.List.Kept.{IsStrictlySortedBy-dedup, Contains-dedup, Contains-from_dedup}
use Rattle.std.proofs.lemmas.List.Sorted.{Contains-permutation, IsPermutation-sym}
use Rattle.exh_prefix.specs.Prefix.{prefix_cmp, low_of}
use Rattle.exh_prefix.specs.PrefixLemmas.{prefix_cmp-total, prefix_cmp-exact, prefix_eq-exact}
use Rattle.exh_prefix.specs.PrefixListLemmas.{is_equal}
use Rattle.exh_notice.specs.declared.entry.Kind.{Kind}
use Rattle.exh_notice.specs.declared.entry.Kind.TheVariants.{Split, Merge}
use Rattle.exh_notice.specs.declared.notice.Notice.{Notice}
use Rattle.exh_table.specs.Leaves.{PrefixSet, after_split, after_merge, after_kind, leaves_after}
use Rattle.exh_table.specs.ChangeLemmas.{leaves_push_to, leaves_push_from}
use Rattle.exh_model.specs.LeafSet.{members, AreSame, ListsLeaves}

-- ---- members

any_contains : (items : List (List Bool)) (prefix : List Bool) → list_any (eq_by_cmp prefix_cmp prefix) items ≡ true → Contains items prefix
any_contains [] prefix = λ any. absurd (true≢false (sym any))
any_contains (item ∷ items) prefix =
    let later : list_any (eq_by_cmp prefix_cmp prefix) items ≡ true → Contains (item ∷ items) prefix = λ any. Contains-append_right (item ∷ []) items prefix (any_contains items prefix any) in
    elim (prefix_cmp prefix item) as (λ o. prefix_cmp prefix item ≡ o → (is_eq o || list_any (eq_by_cmp prefix_cmp prefix) items) ≡ true → Contains (item ∷ items) prefix) [
      | Less ↦ λ o any. later any
      | Equal ↦ λ o any. (0, omega arith, sym (prefix_cmp-exact prefix item o))
      | Greater ↦ λ o any. later any
    ] refl

or_true : (b : Bool) → (b || true) ≡ true
or_true true = refl
or_true false = refl

contains_any : (items : List (List Bool)) (prefix : List Bool) → Contains items prefix → list_any (eq_by_cmp prefix_cmp prefix) items ≡ true
contains_any [] prefix (k, within, is) = absurd (omega (arith, within))
contains_any (item ∷ items) prefix (zero, within, is) =
    ap (λ o. is_eq o || list_any (eq_by_cmp prefix_cmp prefix) items) (ap (λ p. prefix_cmp prefix p) is ∙ tied_itself prefix_cmp-total prefix)
contains_any (item ∷ items) prefix (suc k, within, is) =
    ap (λ b. eq_by_cmp prefix_cmp prefix item || b) (contains_any items prefix (k, omega (arith, within), is)) ∙ or_true (eq_by_cmp prefix_cmp prefix item)

-- the set of a list has the list's items
pub members-from_list : (items : List (List Bool)) → AreSame (members (set.from_list items)) (Contains items)
members-from_list items prefix = (
  λ member. any_contains items prefix (sym (set.contains-from_list prefix_cmp-total items prefix) ∙ member),
  λ among. set.contains-from_list prefix_cmp-total items prefix ∙ contains_any items prefix among,
)

-- ---- sets that have the same prefixes

pub AreSame-trans : (one other third : PrefixSet) → AreSame one other → AreSame other third → AreSame one third
AreSame-trans one other third first second prefix = (λ p. (second prefix).0 ((first prefix).0 p), λ p. (first prefix).1 ((second prefix).1 p))

pub AreSame-sym : (one other : PrefixSet) → AreSame one other → AreSame other one
AreSame-sym one other same prefix = ((same prefix).1, (same prefix).0)

pub AreSame-kind : (one other : PrefixSet) (at : List Bool) (kind : Kind) → AreSame one other → AreSame (after_kind one at kind) (after_kind other at kind)
AreSame-kind one other at (Split right) same prefix = (
  λ p. elim p [ inl old ↦ inl ((same prefix).0 old.0, old.1) | inr new ↦ inr new ],
  λ p. elim p [ inl old ↦ inl ((same prefix).1 old.0, old.1) | inr new ↦ inr new ],
)
AreSame-kind one other at Merge same prefix = (
  λ p. elim p [ inl old ↦ inl ((same prefix).0 old.0, old.1) | inr new ↦ inr new ],
  λ p. elim p [ inl old ↦ inl ((same prefix).1 old.0, old.1) | inr new ↦ inr new ],
)

-- ---- a change

-- whether prefixes are the same, as the code asks it
abbrev pub prefix_eq : List Bool → List Bool → Bool
prefix_eq one other = nat_eq (low_of one) (low_of other) && nat_eq (length one) (length other)

not_same : (one other : List Bool) → (one ≡ other → ⊥) → not (prefix_eq one other) ≡ true
not_same one other differ =
    elim (prefix_eq one other) as (λ b. prefix_eq one other ≡ b → not b ≡ true) [
      | true ↦ λ same. absurd (differ ((prefix_eq-exact one other).0 same))
      | false ↦ λ other. refl
    ] refl

pub differs : (one other : List Bool) → not (prefix_eq one other) ≡ true → one ≡ other → ⊥
differs one other unequal same = true≢false (sym unequal ∙ ap not ((prefix_eq-exact one other).1 same))

kept : (test : List Bool → Bool) (items : List (List Bool)) (prefix : List Bool) → Contains items prefix → test prefix ≡ true → Contains (filter test items) prefix
kept test [] prefix (k, within, is) passes = absurd (omega (arith, within))
kept test (item ∷ items) prefix (zero, within, is) passes =
    let P : Bool → Type 0 = λ b. Contains (cond b (item ∷ filter test items) (filter test items)) prefix in
    subst P (sym (ap test is ∙ passes)) (0, omega arith, is)
kept test (item ∷ items) prefix (suc k, within, is) passes =
    let rest = kept test items prefix (k, omega (arith, within), is) passes in
    elim (test item) as (λ b. Contains (cond b (item ∷ filter test items) (filter test items)) prefix) [
      | true ↦ Contains-append_right (item ∷ []) (filter test items) prefix rest
      | false ↦ rest
    ]

from_kept : (test : List Bool → Bool) (items : List (List Bool)) (prefix : List Bool) → Contains (filter test items) prefix → Contains items prefix × (test prefix ≡ true)
from_kept test items prefix among = (
  All-contains (Contains items) (filter test items) prefix (All-filter test (Contains items) items (All-contains_itself items)) among,
  All-contains (λ item. test item ≡ true) (filter test items) prefix (filter_passes test items) among,
)

-- the items after a split, in the code's order
abbrev pub split_items : List Bool → List (List Bool) → List (List Bool)
split_items parent items = (filter (λ leaf. not (prefix_eq leaf parent)) items ++ (parent ++ false ∷ []) ∷ []) ++ (parent ++ true ∷ []) ∷ []

new_child : (parent : List Bool) (rest : List (List Bool)) (prefix : List Bool) (bit : Bool) → prefix ≡ parent ++ bit ∷ [] → Contains ((rest ++ (parent ++ false ∷ []) ∷ []) ++ (parent ++ true ∷ []) ∷ []) prefix
new_child parent rest prefix true is =
    let P : List Bool → Type 0 = λ p. Contains ((rest ++ (parent ++ false ∷ []) ∷ []) ++ (parent ++ true ∷ []) ∷ []) p in
    subst P (sym is) (Contains-push (rest ++ (parent ++ false ∷ []) ∷ []) (parent ++ true ∷ []))
new_child parent rest prefix false is =
    let P : List Bool → Type 0 = λ p. Contains ((rest ++ (parent ++ false ∷ []) ∷ []) ++ (parent ++ true ∷ []) ∷ []) p in
    subst P (sym is) (Contains-append_left (rest ++ (parent ++ false ∷ []) ∷ []) ((parent ++ true ∷ []) ∷ []) _ (Contains-push rest (parent ++ false ∷ [])))

pub members-split : (parent : List Bool) (items : List (List Bool)) → AreSame (Contains (split_items parent items)) (after_split (Contains items) parent)
members-split parent items prefix =
    let left = parent ++ false ∷ [] in
    let right = parent ++ true ∷ [] in
    let test : List Bool → Bool = λ leaf. not (prefix_eq leaf parent) in
    let rest = filter test items in (
      λ among. elim (Contains-push_cases (rest ++ left ∷ []) right prefix among) [
        | inl before ↦ elim (Contains-push_cases rest left prefix before) [
          | inl old ↦ let parts = from_kept test items prefix old in inl (parts.0, differs prefix parent parts.1)
          | inr is ↦ inr (false, sym is)
        ]
        | inr is ↦ inr (true, sym is)
      ],
      λ after. elim after [
        | inl old ↦ Contains-append_left (rest ++ left ∷ []) (right ∷ []) prefix (Contains-append_left rest (left ∷ []) prefix (kept test items prefix old.0 (not_same prefix parent old.1)))
        | inr new ↦ new_child parent rest prefix new.0 new.1
      ],
    )

-- the items after a merge
abbrev pub merged_items : List Bool → List (List Bool) → List (List Bool)
merged_items parent items = filter (λ leaf. not (prefix_eq leaf (parent ++ false ∷ [])) && not (prefix_eq leaf (parent ++ true ∷ []))) items ++ parent ∷ []

no_child : (parent prefix : List Bool) → not (prefix_eq prefix (parent ++ false ∷ [])) ≡ true → not (prefix_eq prefix (parent ++ true ∷ [])) ≡ true → (bit : Bool) → prefix ≡ parent ++ bit ∷ [] → ⊥
no_child parent prefix left right true = differs prefix (parent ++ true ∷ []) right
no_child parent prefix left right false = differs prefix (parent ++ false ∷ []) left

pub members-merge : (parent : List Bool) (items : List (List Bool)) → AreSame (Contains (merged_items parent items)) (after_merge (Contains items) parent)
members-merge parent items prefix =
    let test : List Bool → Bool = λ leaf. not (prefix_eq leaf (parent ++ false ∷ [])) && not (prefix_eq leaf (parent ++ true ∷ [])) in
    let rest = filter test items in (
      λ among. elim (Contains-push_cases rest parent prefix among) [
        | inl old ↦
            let parts = from_kept test items prefix old in
            let tests = and_parts (not (prefix_eq prefix (parent ++ false ∷ []))) (not (prefix_eq prefix (parent ++ true ∷ []))) parts.1 in
            inl (parts.0, no_child parent prefix tests.0 tests.1)
        | inr is ↦ inr (sym is)
      ],
      λ after. elim after [
        | inl old ↦ Contains-append_left rest (parent ∷ []) prefix (kept test items prefix old.0
            (ap (λ b. b && not (prefix_eq prefix (parent ++ true ∷ []))) (not_same prefix (parent ++ false ∷ []) (old.1 false)) ∙ not_same prefix (parent ++ true ∷ []) (old.1 true)))
        | inr is ↦ let P : List Bool → Type 0 = λ p. Contains (rest ++ parent ∷ []) p in subst P (sym is) (Contains-push rest parent)
      ],
    )

-- the set after a change
done : (new items : List (List Bool)) (leaves : set.FinSet prefix_cmp) (at : List Bool) (kind : Kind) → set.from_list items ≡ leaves → AreSame (Contains new) (after_kind (Contains items) at kind)
    → AreSame (members (set.from_list new)) (after_kind (members leaves) at kind)
done new items leaves at kind seen same =
    let P : set.FinSet prefix_cmp → Type 0 = λ leaves. AreSame (members (set.from_list new)) (after_kind (members leaves) at kind) in
    subst P seen
    (AreSame-trans _ _ _ (members-from_list new) (AreSame-trans _ _ _ same (AreSame-kind (Contains items) (members (set.from_list items)) at kind (AreSame-sym _ _ (members-from_list items)))))

pub split_done : (new items : List (List Bool)) (leaves : set.FinSet prefix_cmp) (at : List Bool) (kind : Kind) (right : ℕ) → set.from_list items ≡ leaves → kind ≡ Split right → new ≡ split_items at items
    → AreSame (members (set.from_list new)) (after_kind (members leaves) at kind)
split_done new items leaves at kind right seen is after =
    let P : Kind → Type 0 = λ kind. AreSame (members (set.from_list new)) (after_kind (members leaves) at kind) in
    let Q : List (List Bool) → Type 0 = λ new. AreSame (Contains new) (after_split (Contains items) at) in
    subst P (sym is) (done new items leaves at (Split right) seen (subst Q (sym after) (members-split at items)))

pub merge_done : (new items : List (List Bool)) (leaves : set.FinSet prefix_cmp) (at : List Bool) (kind : Kind) → set.from_list items ≡ leaves → kind ≡ Merge → new ≡ merged_items at items
    → AreSame (members (set.from_list new)) (after_kind (members leaves) at kind)
merge_done new items leaves at kind seen is after =
    let P : Kind → Type 0 = λ kind. AreSame (members (set.from_list new)) (after_kind (members leaves) at kind) in
    let Q : List (List Bool) → Type 0 = λ new. AreSame (Contains new) (after_merge (Contains items) at) in
    subst P (sym is) (done new items leaves at Merge seen (subst Q (sym after) (members-merge at items)))

-- ---- a list of changes

pub leaves_after-more : (start old new : PrefixSet) (changes : List Notice) (i : ℕ) (change : Notice) → i < length changes → change ≡ get_or changes i change → AreSame old (leaves_after start (take i changes))
    → AreSame new (after_kind old change.prefix change.kind) → AreSame new (leaves_after start (take (i + 1) changes))
leaves_after-more start old new changes i change within is so_far changed =
    let P : List Notice → Type 0 = λ seen. AreSame new (leaves_after start seen) in
    subst P (sym (take_more changes i change within ∙ ap (λ c. take i changes ++ c ∷ []) (sym is)))
    (AreSame-trans _ _ _ changed (AreSame-trans _ _ _ (AreSame-kind old (leaves_after start (take i changes)) change.prefix change.kind so_far) (λ prefix. (leaves_push_from start (take i changes) change prefix, leaves_push_to start (take i changes) change prefix))))

-- ---- in order, each once

listed_unique : (items sorted : List (List Bool)) → IsPermutation items sorted → IsSorted prefix_cmp sorted → ListsLeaves (set.from_list items) (dedup (eq_by_cmp prefix_cmp) sorted)
listed_unique items sorted moved in_order =
    let equal = eq_by_cmp_equiv prefix_cmp-total in
    record {
      rising = IsStrictlySortedBy-dedup prefix_cmp-total {E = eq_by_cmp prefix_cmp} (λ one other. refl) sorted in_order;
      same = λ prefix. (
        λ among. (members-from_list items prefix).1 (Contains-permutation sorted items prefix (IsPermutation-sym items sorted moved) (Contains-from_dedup (eq_by_cmp prefix_cmp) sorted prefix among)),
        λ member. Contains-dedup equal tied_same sorted prefix (Contains-permutation items sorted prefix moved ((members-from_list items prefix).0 member)),
      );
    }
  where
    tied_same : (one other : List Bool) → eq_by_cmp prefix_cmp one other ≡ true → one ≡ other
    tied_same one other tied = prefix_cmp-exact one other (is_equal (prefix_cmp one other) tied)

pub leaves_listed : (items sorted unique : List (List Bool)) (leaves : set.FinSet prefix_cmp) (eq : List Bool → List Bool → Bool) → ((one other : List Bool) → eq one other ≡ eq_by_cmp prefix_cmp one other)
    → set.from_list items ≡ leaves → IsPermutation items sorted → IsSorted prefix_cmp sorted → IsFiltered (DiffersFromLast eq) [] sorted unique → ListsLeaves leaves unique
leaves_listed items sorted unique leaves eq ties seen moved in_order kept =
    let same : eq ≡ eq_by_cmp prefix_cmp = λ i one other. ties one other i in
    let P : List (List Bool) → Type 0 = λ prefixes. ListsLeaves (set.from_list items) prefixes in
    let Q : set.FinSet prefix_cmp → Type 0 = λ leaves. ListsLeaves leaves unique in
    subst Q seen (subst P (sym (dedup_is eq sorted unique kept ∙ ap (λ (eq : List Bool → List Bool → Bool). dedup eq sorted) same)) (listed_unique items sorted moved in_order))
