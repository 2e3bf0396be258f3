-- The greatest entry that notices have at a prefix, one notice after another.
use Rattle.std.proofs.Common.{◌≡◌, ℕ, ◌+◌, ◌<◌, Bool, cond, List, [], ◌∷◌, ◌++◌, length, get_or, take, map, Option, None, Some, Ordering, Contains, IsTrue, refl, sym, ap, subst, ◌∙◌, inl, inr}
use Rattle.std.specs.declared.cmp.Ordering.TheVariants.{Less, Equal, Greater}
use Rattle.std.specs.Option.{option_cmp}
use Rattle.std.specs.Ordering.{ord_max, is_lt, is_le, ordering_reverse}
use Rattle.std.proofs.lemmas.List.{map_more}
use Rattle.std.proofs.lemmas.List.Elements.{Contains-push, Contains-push_cases, Contains-append_left}
use Rattle.exh_join.specs.Greater.{IsUpTo}
use Rattle.exh_notice.specs.declared.entry.Entry.{Entry}
use Rattle.exh_notice.specs.declared.notice.Notice.{Notice}
use Rattle.exh_notice.specs.Entry.{entry_cmp, entry_of}
use Rattle.exh_notice.specs.EntryLemmas.{entry_cmp-total, entry_laws}
use Rattle.exh_table.specs.Table.{IsGreatest, IsEntryOf, told_by}

abbrev pub Told : Type 0
Told = List Bool × Entry

-- ---- one entry more

prefix_of : Told → List Bool
prefix_of told = told.0

told_entry : Told → Entry
told_entry told = told.1

-- at another prefix
pub IsEntryOf-other : (told : List Told) (prefix at : List Bool) (entry : Entry) (old : Option Entry) → (at ≡ prefix → ⊥) → IsEntryOf told prefix old → IsEntryOf (told ++ (at, entry) ∷ []) prefix old
unfolding prefix_of
IsEntryOf-other told prefix at entry None differ none =
    λ e among. elim (Contains-push_cases told (at, entry) (prefix, e) among) [
      | inl before ↦ none e before
      | inr same ↦ differ (ap prefix_of same)
    ]
IsEntryOf-other told prefix at entry (Some old) differ is = record {
  member = Contains-append_left told ((at, entry) ∷ []) (prefix, old) is.member;
  greatest = λ e among. elim (Contains-push_cases told (at, entry) (prefix, e) among) [
    | inl before ↦ is.greatest e before
    | inr same ↦ absurd (differ (ap prefix_of same))
  ];
}

-- the entry is the greatest from now on
IsGreatest-new : (told : List Told) (prefix : List Bool) (entry : Entry) → ((e : Entry) → Contains told (prefix, e) → IsUpTo entry_cmp e entry) → IsGreatest (told ++ (prefix, entry) ∷ []) prefix entry
unfolding told_entry
IsGreatest-new told prefix entry above = record {
  member = Contains-push told (prefix, entry);
  greatest = λ e among. elim (Contains-push_cases told (prefix, entry) (prefix, e) among) [
    | inl before ↦ above e before
    | inr same ↦ let P : Entry → Type 0 = λ e. IsUpTo entry_cmp e entry in subst P (ap told_entry same) (entry_laws.order.reflexive entry)
  ];
}

-- the old one stays the greatest
IsGreatest-old : (told : List Told) (prefix : List Bool) (entry old : Entry) → IsUpTo entry_cmp entry old → IsGreatest told prefix old → IsGreatest (told ++ (prefix, entry) ∷ []) prefix old
unfolding told_entry
IsGreatest-old told prefix entry old below is = record {
  member = Contains-append_left told ((prefix, entry) ∷ []) (prefix, old) is.member;
  greatest = λ e among. elim (Contains-push_cases told (prefix, entry) (prefix, e) among) [
    | inl before ↦ is.greatest e before
    | inr same ↦ let P : Entry → Type 0 = λ e. IsUpTo entry_cmp e old in subst P (ap told_entry same) below
  ];
}

up_to_by : (one other : Entry) (o : Ordering) → entry_cmp one other ≡ o → IsTrue (is_le o) → IsUpTo entry_cmp one other
up_to_by one other o is below = let P : Ordering → Type 0 = λ o. IsTrue (is_le o) in subst P (sym is) below

up_to_back : (one other : Entry) (o : Ordering) → entry_cmp one other ≡ o → IsTrue (is_le (ordering_reverse o)) → IsUpTo entry_cmp other one
up_to_back one other o is below = up_to_by other one (ordering_reverse o) (entry_cmp-total.antisymm other one ∙ ap ordering_reverse is) below

-- at the prefix
pub IsEntryOf-more : (told : List Told) (prefix : List Bool) (entry : Entry) (old : Option Entry) → IsEntryOf told prefix old
    → IsEntryOf (told ++ (prefix, entry) ∷ []) prefix (ord_max (option_cmp entry_cmp) old (Some entry))
IsEntryOf-more told prefix entry None none = IsGreatest-new told prefix entry (λ e among. absurd (none e among))
IsEntryOf-more told prefix entry (Some old) is =
    elim (entry_cmp entry old) as (λ o. entry_cmp entry old ≡ o → IsEntryOf (told ++ (prefix, entry) ∷ []) prefix (cond (is_lt o) (Some old) (Some entry))) [
      | Less ↦ λ o. IsGreatest-old told prefix entry old (up_to_by entry old Less o refl) is
      | Equal ↦ λ o. IsGreatest-new told prefix entry (λ e among. entry_laws.order.transitive e old entry (is.greatest e among) (up_to_back entry old Equal o refl))
      | Greater ↦ λ o. IsGreatest-new told prefix entry (λ e among. entry_laws.order.transitive e old entry (is.greatest e among) (up_to_back entry old Greater o refl))
    ] refl

-- what notices tell, one notice more
told_more : (notices : List Notice) (i : ℕ) (notice : Notice) → i < length notices → notice ≡ get_or notices i notice → map told_by (take (i + 1) notices) ≡ map told_by (take i notices) ++ told_by notice ∷ []
told_more notices i notice within is = map_more told_by notices i notice within ∙ ap (λ n. map told_by (take i notices) ++ told_by n ∷ []) (sym is)

pub IsEntryOf-at_other : (notices : List Notice) (i : ℕ) (notice : Notice) (prefix : List Bool) (old : Option Entry) → i < length notices → notice ≡ get_or notices i notice → (notice.prefix ≡ prefix → ⊥)
    → IsEntryOf (map told_by (take i notices)) prefix old → IsEntryOf (map told_by (take (i + 1) notices)) prefix old
IsEntryOf-at_other notices i notice prefix old within is differ held =
    let P : List Told → Type 0 = λ told. IsEntryOf told prefix old in
    subst P (sym (told_more notices i notice within is)) (IsEntryOf-other _ prefix notice.prefix (entry_of notice) old differ held)

pub IsEntryOf-at_prefix : (notices : List Notice) (i : ℕ) (notice : Notice) (prefix : List Bool) (old : Option Entry) → i < length notices → notice ≡ get_or notices i notice → notice.prefix ≡ prefix
    → IsEntryOf (map told_by (take i notices)) prefix old → IsEntryOf (map told_by (take (i + 1) notices)) prefix (ord_max (option_cmp entry_cmp) old (Some (entry_of notice)))
IsEntryOf-at_prefix notices i notice prefix old within is same held =
    let new = ord_max (option_cmp entry_cmp) old (Some (entry_of notice)) in
    let P : List Told → Type 0 = λ told. IsEntryOf told prefix new in
    let Q : List Bool → Type 0 = λ at. IsEntryOf (map told_by (take i notices) ++ (at, entry_of notice) ∷ []) prefix new in
    subst P (sym (told_more notices i notice within is)) (subst Q (sym same) (IsEntryOf-more _ prefix (entry_of notice) old held))
