-- A table with the notice of a merge fits the pages after it.
use Rattle.std.proofs.Common.{◌≡◌, ℕ, ◌+◌, ◌<◌, ◌≤◌, ◌%◌, Bool, true, false, List, [], ◌∷◌, ◌++◌, length, Option, None, Some, inl, inr, refl, sym, ap, ◌∙◌, subst, arith}
use Rattle.std.specs.FinMap as fin
use Rattle.std.specs.Option.{option_map_or}
use Rattle.std.proofs.lemmas.Bool.{cases_eq}
use Rattle.std.proofs.lemmas.List.{length_push}
use Rattle.exh_prefix.specs.declared.prefix.TheConstants.{LIMIT}
use Rattle.exh_prefix.specs.Prefix.{IsFront, Begins, low_of}
use Rattle.exh_prefix.specs.PrefixLemmas.{front_of_front}
use Rattle.exh_table.specs.declared.Entry.{Entry}
use Rattle.exh_table.specs.declared.Kind.TheVariants.{Split, Merge}
use Rattle.exh_table.specs.declared.Notice.{Notice}
use Rattle.exh_table.specs.Entry.{entry_of}
use Rattle.exh_table.specs.Table.{TableMap, table_with}
use Rattle.exh_table.specs.TableWalk.{right_of, split_at}
use Rattle.exh_page.specs.declared.page.Page.{Page}
use Rattle.exh_legal.specs.Pages.{AreLinked}
use Rattle.exh_legal.specs.Change.{IsForwardOf}
use Rattle.exh_legal.specs.Growth.{IsLiveAt, IsPageOf}
use Rattle.exh_legal.specs.Fit.{parity_of, IsWardEntry, IsSplitAt, IsMergeAt, IsProperFront, IsInner, FitsPages}
use Rattle.exh_legal.specs.ChangeNumbers.{number_at}
use Rattle.exh_prefix.specs.LowLemmas.{own_front, begins_own_low, front_shorter, front_of_longer, right_tells_parent, front_of_child, same_front}
use Rattle.exh_legal.proofs.MergeLinks.{IsJoined, short, became, was, stays, home_is_half, parent_in_ward}
use Rattle.exh_legal.proofs.TableSteps.{cases_prefix, get_with_same, get_with_other}

-- where a split stands the number is odd
pub odd_at : (ward : List Bool) (table : TableMap) (pages : List Page) → FitsPages ward table pages → (prefix : List Bool) → IsSplitAt table prefix → (number_at table prefix) % 2 ≡ 1
odd_at ward table pages fits prefix split =
    elim (fin.get table prefix) as (λ found. fin.get table prefix ≡ found → right_of found ≡ Some split.0 → (option_map_or (λ entry. entry.number) found 0) % 2 ≡ 1) [
      | None ↦ λ is right. cc
      | Some entry ↦ λ is right.
          (fits.entries prefix entry is).parity
          ∙ elim entry.kind as (λ kind. right_of (Some (record { number = entry.number; kind = kind })) ≡ Some split.0 → parity_of kind ≡ 1) [
            | Split target ↦ λ right. refl
            | Merge ↦ λ right. cc
          ] right
    ] refl split.1

even_after_odd : (n : ℕ) → n % 2 ≡ 1 → (n + 1) % 2 ≡ 0
even_after_odd n odd = omega arith

module _ {ward : List Bool} {pages : List Page} {at : ℕ} {prefix : List Bool} {left_link : Option ℕ} {right : ℕ} {link : Option ℕ} {new : List Page} (linked : AreLinked ward pages) (joined : IsJoined pages at prefix left_link right link new)
    {table : TableMap} (fits : FitsPages ward table pages) (notice : Notice) (at_prefix : notice.prefix ≡ prefix) (next_number : notice.number ≡ number_at table prefix + 1) (kind : notice.kind ≡ Merge) where
  abbrev after : TableMap
  after = table_with table notice

  parent_front : (bit : Bool) → IsProperFront prefix (prefix ++ bit ∷ [])
  parent_front bit = (front_of_longer prefix prefix (bit ∷ []) (own_front prefix), omega (arith, length_push prefix bit))

  -- a split stands at the parent, whose left child is live
  pub split_yet : IsSplitAt table prefix
  split_yet = (fits.splits prefix).1 (parent_in_ward linked joined, (prefix ++ false ∷ [], at, (left_link, [], joined.there), parent_front false))

  later : number_at table notice.prefix < notice.number
  later = omega (arith, next_number, ap (number_at table) at_prefix)

  get_here : fin.get after prefix ≡ Some (entry_of notice)
  get_here = ap (fin.get after) (sym at_prefix) ∙ get_with_same table notice later

  get_else : (other : List Bool) → (other ≡ prefix → ⊥) → fin.get after other ≡ fin.get table other
  get_else other differ = get_with_other table notice other (λ same. differ (same ∙ at_prefix))

  merge_here : fin.get after prefix ≡ Some (record { number = notice.number; kind = Merge })
  merge_here = get_here ∙ ap (λ k. Some (record { number = notice.number; kind = k })) kind

  none_here : split_at after prefix ≡ None
  none_here = ap right_of merge_here

  split_else : (other : List Bool) → (other ≡ prefix → ⊥) → split_at after other ≡ split_at table other
  split_else other differ = ap right_of (get_else other differ)

  -- a split after the merge stands elsewhere
  elsewhere_split : (other : List Bool) → IsSplitAt after other → other ≡ prefix → ⊥
  elsewhere_split other split same = let both : None ≡ Some split.0 = sym none_here ∙ ap (split_at after) (sym same) ∙ split.1 in cc

  same_entry : (other : List Bool) (entry : Entry) → other ≡ prefix → fin.get after other ≡ Some entry → entry ≡ record { number = notice.number; kind = Merge }
  same_entry other entry same is = let both : Some entry ≡ Some (record { number = notice.number; kind = Merge }) = sym is ∙ ap (fin.get after) same ∙ merge_here in cc

  entries : (other : List Bool) (entry : Entry) → fin.get after other ≡ Some entry → IsWardEntry ward other entry
  entries other entry is = elim (cases_prefix other prefix) [
    | inl same ↦
        let entry_is = same_entry other entry same is in
        record {
          within = subst (IsFront ward) (sym same) (parent_in_ward linked joined);
          some = omega (arith, ap (λ (e : Entry). e.number) entry_is, next_number);
          parity =
              ap (λ (e : Entry). e.number % 2) entry_is ∙ ap (λ n. n % 2) next_number ∙ even_after_odd (number_at table prefix) (odd_at ward table pages fits prefix split_yet)
              ∙ sym (ap (λ (e : Entry). parity_of e.kind) entry_is);
        }
    | inr differ ↦ fits.entries other entry (sym (get_else other differ) ∙ is)
  ]

  -- what is inner of a half is inner of the parent, but for the parent itself
  inner_of_half : (bit : Bool) (front leaf : List Bool) → (front ≡ prefix → ⊥) → leaf ≡ prefix ++ bit ∷ [] → IsProperFront front leaf → IsInner new front
  inner_of_half bit front leaf differ leaf_is proper =
      let fits : length front ≤ length prefix = omega (arith, proper.1, ap length leaf_is, length_push prefix bit) in
      let is_front : IsFront front prefix = front_of_child front prefix bit (subst (IsFront front) leaf_is proper.0) fits in
      elim (cases_eq (length front) (length prefix)) [
        | inl same ↦ absurd (differ (same_front front prefix is_front same))
        | inr shorter ↦ (prefix, at, (link, [], joined.merged), (is_front, omega (arith, fits, shorter)))
      ]

  inner_after : (front : List Bool) → (front ≡ prefix → ⊥) → IsInner pages front → IsInner new front
  inner_after front differ inner = elim (was linked joined inner.1 _ inner.2.2) [
    | inl left ↦ let leaf_is : inner.0 ≡ prefix ++ false ∷ [] = let page = left.1 in cc in inner_of_half false front inner.0 differ leaf_is inner.3
    | inr rest ↦ elim rest [
      | inl upper ↦ let leaf_is : inner.0 ≡ prefix ++ true ∷ [] = let page = upper.1 in cc in inner_of_half true front inner.0 differ leaf_is inner.3
      | inr old ↦ (inner.0, inner.1, (inner.2.0, inner.2.1, old.2), inner.3)
    ]
  ]

  -- the parent is no live page's proper front any more
  not_inner : (leaf : List Bool) (number : ℕ) → IsLiveAt pages leaf number → (number ≡ at → ⊥) → (number ≡ right → ⊥) → IsProperFront prefix leaf → ⊥
  not_inner leaf number is else elsewhere proper =
      let begins_it = begins_own_low leaf (linked.within number _ is.2).1 in
      let begun : Begins prefix (low_of leaf) = front_of_front prefix leaf _ (front_shorter prefix leaf proper.0) proper.0 begins_it in
      elim (home_is_half linked joined (low_of leaf) number _ is.2 begins_it begun) [
        | inl here ↦ else here
        | inr there ↦ elsewhere there
      ]

  inner_before : (front : List Bool) → IsInner new front → (front ≡ prefix → ⊥) × IsInner pages front
  inner_before front inner = elim (became linked joined inner.1 _ inner.2.2) [
    | inl here ↦
        let leaf_is : inner.0 ≡ prefix = let page = here.1 in cc in
        let is_front : IsFront front prefix = subst (IsFront front) leaf_is inner.3.0 in
        let shorter : length front < length prefix = omega (arith, inner.3.1, ap length leaf_is) in (
          λ same. omega (arith, ap length same, shorter),
          (prefix ++ false ∷ [], at, (left_link, [], joined.there), (front_of_longer front prefix (false ∷ []) is_front, omega (arith, shorter, length_push prefix false))),
        )
    | inr rest ↦ elim rest [
      | inl there ↦ let page = there.1 in cc
      | inr old ↦ (
        λ same. not_inner inner.0 inner.1 (inner.2.0, inner.2.1, old.2) old.0 old.1 (subst (λ front. IsProperFront front inner.0) same inner.3),
        (inner.0, inner.1, (inner.2.0, inner.2.1, old.2), inner.3),
      )
    ]
  ]

  splits_to : (other : List Bool) → IsSplitAt after other → IsFront ward other × IsInner new other
  splits_to other split =
      let differ = elsewhere_split other split in
      let old = (fits.splits other).0 (split.0, sym (split_else other differ) ∙ split.1) in
      (old.0, inner_after other differ old.1)

  splits_from : (other : List Bool) → IsFront ward other × IsInner new other → IsSplitAt after other
  splits_from other is =
      let inner = inner_before other is.1 in
      let old = (fits.splits other).1 (is.0, inner.1) in
      (old.0, split_else other inner.0 ∙ old.1)

  merges_to : (other : List Bool) → IsMergeAt after other → (length other < LIMIT) × ((number : ℕ) × IsForwardOf new (low_of (other ++ true ∷ [])) number)
  merges_to other merge = elim (cases_prefix other prefix) [
    | inl same ↦
        let here : (length prefix < LIMIT) × ((number : ℕ) × IsForwardOf new (low_of (prefix ++ true ∷ [])) number) = (short linked joined, (right, (at, joined.forwards))) in
        subst (λ p. (length p < LIMIT) × ((number : ℕ) × IsForwardOf new (low_of (p ++ true ∷ [])) number)) (sym same) here
    | inr differ ↦
        let old = (fits.merges other).0 (merge.0, sym (get_else other differ) ∙ merge.1) in
        elim (was linked joined old.1.0 _ old.1.1.1) [
          | inl left ↦ let page = left.1 in cc
          | inr rest ↦ elim rest [
            | inl upper ↦ let page = upper.1 in cc
            | inr stay ↦ (old.0, (old.1.0, (old.1.1.0, stay.2)))
          ]
        ]
  ]

  merges_from : (other : List Bool) → (length other < LIMIT) × ((number : ℕ) × IsForwardOf new (low_of (other ++ true ∷ [])) number) → IsMergeAt after other
  merges_from other is = elim (became linked joined is.1.0 _ is.1.1.1) [
    | inl left ↦ let page = left.1 in cc
    | inr rest ↦ elim rest [
      | inl there ↦
          let low : low_of (other ++ true ∷ []) ≡ low_of (prefix ++ true ∷ []) = let page = there.1 in cc in
          let same = right_tells_parent other prefix is.0 (short linked joined) low in
          (notice.number, ap (fin.get after) same ∙ merge_here)
      | inr old ↦ elim (cases_prefix other prefix) [
        | inl same ↦ absurd (old.1 (linked.apart is.1.0 right _ _ old.2 joined.buddy (ap (λ p. low_of (p ++ true ∷ [])) same)))
        | inr differ ↦
            let merge = (fits.merges other).1 (is.0, (is.1.0, (is.1.1.0, old.2))) in
            (merge.0, get_else other differ ∙ merge.1)
      ]
    ]
  ]

  rights : (other : List Bool) (target : ℕ) → split_at after other ≡ Some target → IsPageOf new (low_of (other ++ true ∷ [])) target
  rights other target is =
      let differ = elsewhere_split other (target, is) in
      let old = fits.rights other target (sym (split_else other differ) ∙ is) in
      let kept = stays linked joined target old.0 old.1 in
      (kept.0, kept.1, kept.2 ∙ old.2)

  pub merge_fits : FitsPages ward after new
  merge_fits = record {
    entries = entries;
    splits = λ other. (splits_to other, splits_from other);
    merges = λ other. (merges_to other, merges_from other);
    rights = rights;
  }
