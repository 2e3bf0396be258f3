-- Pages after a split have grown by its notice.
use Rattle.std.proofs.Common.{◌≡◌, ℕ, ◌<◌, Bool, true, false, List, [], ◌∷◌, ◌++◌, Option, Some, ◌⊎◌, inl, inr, refl, sym, ap, ◌∙◌, subst, arith}
use Rattle.std.proofs.lemmas.Bool.{cases_eq}
use Rattle.std.proofs.lemmas.List.Elements.{Contains-push, Contains-push_cases, Contains-append_left}
use Rattle.exh_prefix.specs.Prefix.{low_of}
use Rattle.exh_table.specs.declared.Kind.TheVariants.{Split}
use Rattle.exh_table.specs.declared.Notice.{Notice}
use Rattle.exh_table.specs.Table.{TableMap}
use Rattle.exh_table.specs.Leaves.{PrefixSet, after_kind, after_split, leaves_in, ward_leaves}
use Rattle.exh_table.specs.ChangeLemmas.{leaves_push_to, leaves_push_from}
use Rattle.exh_page.specs.declared.page.Page.{Page}
use Rattle.exh_page.specs.declared.page.Page.TheVariants.{Live}
use Rattle.exh_page.specs.Page.{low_bound}
use Rattle.exh_legal.specs.Pages.{IsAt, AreLinked}
use Rattle.exh_legal.specs.Growth.{IsLiveAt, IsPageOf, HasEntryEver, IsGrown}
use Rattle.exh_prefix.specs.LowLemmas.{left_keeps}
use Rattle.exh_prefix.specs.PrefixListLemmas.{one_there}
use Rattle.exh_legal.proofs.SplitLinks.{IsParted, became, stays, live_elsewhere}

pub entry_ever_push : (start : TableMap) (changes : List Notice) (change : Notice) (prefix : List Bool) → HasEntryEver start (changes ++ change ∷ []) prefix → HasEntryEver start changes prefix ⊎ (change.prefix ≡ prefix)
entry_ever_push start changes change prefix (inl some) = inl (inl some)
entry_ever_push start changes change prefix (inr told) = elim (Contains-push_cases changes change told.0 told.1) [
  | inl old ↦ inl (inr (told.0, old, told.2))
  | inr last ↦ inr (ap (λ (n : Notice). n.prefix) last ∙ told.2)
]

pub entry_ever_more : (start : TableMap) (changes : List Notice) (change : Notice) (prefix : List Bool) → HasEntryEver start changes prefix → HasEntryEver start (changes ++ change ∷ []) prefix
entry_ever_more start changes change prefix (inl some) = inl some
entry_ever_more start changes change prefix (inr told) = inr (told.0, Contains-append_left changes (change ∷ []) told.0 told.1, told.2)

pub entry_ever_last : (start : TableMap) (changes : List Notice) (change : Notice) → HasEntryEver start (changes ++ change ∷ []) change.prefix
entry_ever_last start changes change = inr (change, Contains-push changes change, refl)

module _ {ward : List Bool} {pages : List Page} {at : ℕ} {prefix : List Bool} {link : Option ℕ} {right : ℕ} {new : List Page} (linked : AreLinked ward pages) (parted : IsParted pages at prefix link right new)
    {start : TableMap} {changes : List Notice} (grown : IsGrown ward start changes pages) (notice : Notice) (at_prefix : notice.prefix ≡ prefix) (kind : notice.kind ≡ Split right) where
  -- the leaves after the split, as a set
  abbrev Parted : PrefixSet
  Parted = after_split (ward_leaves start ward changes) prefix

  to_parted : (leaf : List Bool) → ward_leaves start ward (changes ++ notice ∷ []) leaf → Parted leaf
  to_parted leaf is =
      let P : List Bool → Type 0 = λ p. after_split (ward_leaves start ward changes) p leaf in
      subst P at_prefix (subst (λ k. after_kind (ward_leaves start ward changes) notice.prefix k leaf) kind (leaves_push_to (leaves_in start ward) changes notice leaf is))

  from_parted : (leaf : List Bool) → Parted leaf → ward_leaves start ward (changes ++ notice ∷ []) leaf
  from_parted leaf is =
      let P : List Bool → Type 0 = λ p. after_split (ward_leaves start ward changes) p leaf in
      leaves_push_from (leaves_in start ward) changes notice leaf (subst (λ k. after_kind (ward_leaves start ward changes) notice.prefix k leaf) (sym kind) (subst P (sym at_prefix) is))

  child_live : (bit : Bool) → (number : ℕ) × IsLiveAt new (prefix ++ bit ∷ []) number
  child_live true = (right, (link, [], parted.right_half))
  child_live false = (at, (Some right, [], parted.left))

  leaves_to : (leaf : List Bool) → Parted leaf → (number : ℕ) × IsLiveAt new leaf number
  leaves_to leaf (inl old) =
      let is = (grown.leaves leaf).0 old.0 in
      let else : is.0 ≡ at → ⊥ = λ same.
      let page = one_there pages at _ _ (subst (λ n. IsAt pages n (Live leaf is.1.0 is.1.1)) same is.1.2) parted.there in
      old.1 cc in
      (is.0, (is.1.0, is.1.1, parted.others is.0 else (live_elsewhere linked parted is.0 _ is.1.2 tt) ∙ is.1.2))
  leaves_to leaf (inr child) = let is = child_live child.0 in let P : List Bool → Type 0 = λ leaf. (number : ℕ) × IsLiveAt new leaf number in subst P (sym child.1) is

  leaves_from : (leaf : List Bool) (number : ℕ) → IsLiveAt new leaf number → Parted leaf
  leaves_from leaf number is = elim (became linked parted number _ is.2) [
    | inl left ↦ let page = left.1 in inr (false, cc)
    | inr rest ↦ elim rest [
      | inl upper ↦ let page = upper.1 in inr (true, cc)
      | inr old ↦ inl (
        (grown.leaves leaf).1 (number, (is.0, is.1, old.2)),
        λ same. old.0 (linked.apart number at _ _ old.2 parted.there (ap low_of same)),
      )
    ]
  ]

  -- `right` isn't page 0, which was live
  right_later : 0 < right
  right_later = elim (cases_eq right 0) [
    | inl same ↦ absurd (live_elsewhere linked parted 0 linked.first.0 linked.first.1 linked.first.2 (sym same))
    | inr else ↦ omega arith
  ]

  for_each : (other : List Bool) → HasEntryEver start (changes ++ notice ∷ []) other → (number : ℕ) × (0 < number) × IsPageOf new (low_of (other ++ true ∷ [])) number
  for_each other told = elim (entry_ever_push start changes notice other told) [
    | inl old ↦
        let is = grown.for_each other old in
        let kept = stays linked parted is.0 is.2.0 is.2.1 in
        (is.0, is.1, (kept.0, kept.1, kept.2 ∙ is.2.2))
    | inr last ↦ (right, right_later, (Live (prefix ++ true ∷ []) link [], parted.right_half, ap (λ p. low_of (p ++ true ∷ [])) (sym at_prefix ∙ last)))
  ]

  no_other : (number : ℕ) (page : Page) → IsAt new number page → 0 < number → (other : List Bool) × HasEntryEver start (changes ++ notice ∷ []) other × (low_bound page ≡ low_of (other ++ true ∷ []))
  no_other number page is some = elim (became linked parted number page is) [
    | inl left ↦
        let old = grown.no_other at (Live prefix link []) parted.there (subst (λ n. 0 < n) left.0 some) in
        (old.0, entry_ever_more start changes notice old.0 old.1, ap low_bound left.1 ∙ left_keeps prefix parted.short ∙ old.2)
    | inr rest ↦ elim rest [
      | inl upper ↦ (notice.prefix, entry_ever_last start changes notice, ap low_bound upper.1 ∙ ap (λ p. low_of (p ++ true ∷ [])) (sym at_prefix))
      | inr old ↦
          let was = grown.no_other number page old.2 some in
          (was.0, entry_ever_more start changes notice was.0 was.1, was.2)
    ]
  ]

  pub split_grown : IsGrown ward start (changes ++ notice ∷ []) new
  split_grown = record {
    leaves = λ leaf. (λ is. leaves_to leaf (to_parted leaf is), λ is. from_parted leaf (leaves_from leaf is.0 is.1));
    for_each = for_each;
    no_other = no_other;
  }
