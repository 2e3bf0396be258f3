-- Pages after a merge have grown by its notice.
use Rattle.std.proofs.Common.{◌≡◌, ℕ, ◌<◌, Bool, true, false, List, [], ◌∷◌, ◌++◌, Option, inl, inr, sym, ap, ◌∙◌, subst, arith}
use Rattle.std.proofs.lemmas.Bool.{cases_eq}
use Rattle.exh_prefix.specs.Prefix.{low_of}
use Rattle.exh_table.specs.declared.Kind.TheVariants.{Merge}
use Rattle.exh_table.specs.declared.Notice.{Notice}
use Rattle.exh_table.specs.Table.{TableMap}
use Rattle.exh_table.specs.Leaves.{PrefixSet, after_kind, after_merge, leaves_in, ward_leaves}
use Rattle.exh_table.specs.ChangeLemmas.{leaves_push_to, leaves_push_from}
use Rattle.exh_page.specs.declared.page.Page.{Page}
use Rattle.exh_page.specs.declared.page.Page.TheVariants.{Live, Forward}
use Rattle.exh_page.specs.Page.{low_bound}
use Rattle.exh_legal.specs.Pages.{IsAt, AreLinked}
use Rattle.exh_legal.specs.Growth.{IsLiveAt, IsPageOf, HasEntryEver, IsGrown}
use Rattle.exh_prefix.specs.LowLemmas.{left_keeps}
use Rattle.exh_legal.proofs.SplitGrown.{entry_ever_push, entry_ever_more, entry_ever_last}
use Rattle.exh_legal.proofs.MergeLinks.{IsJoined, short, became, was, stays, first_else}

module _ {ward : List Bool} {pages : List Page} {at : ℕ} {prefix : List Bool} {left_link : Option ℕ} {right : ℕ} {link : Option ℕ} {new : List Page} (linked : AreLinked ward pages) (joined : IsJoined pages at prefix left_link right link new)
    {start : TableMap} {changes : List Notice} (grown : IsGrown ward start changes pages) (notice : Notice) (at_prefix : notice.prefix ≡ prefix) (kind : notice.kind ≡ Merge) where
  -- the leaves after the merge, as a set
  abbrev United : PrefixSet
  United = after_merge (ward_leaves start ward changes) prefix

  to_united : (leaf : List Bool) → ward_leaves start ward (changes ++ notice ∷ []) leaf → United leaf
  to_united leaf is =
      let P : List Bool → Type 0 = λ p. after_merge (ward_leaves start ward changes) p leaf in
      subst P at_prefix (subst (λ k. after_kind (ward_leaves start ward changes) notice.prefix k leaf) kind (leaves_push_to (leaves_in start ward) changes notice leaf is))

  from_united : (leaf : List Bool) → United leaf → ward_leaves start ward (changes ++ notice ∷ []) leaf
  from_united leaf is =
      let P : List Bool → Type 0 = λ p. after_merge (ward_leaves start ward changes) p leaf in
      leaves_push_from (leaves_in start ward) changes notice leaf (subst (λ k. after_kind (ward_leaves start ward changes) notice.prefix k leaf) (sym kind) (subst P (sym at_prefix) is))

  leaves_to : (leaf : List Bool) → United leaf → (number : ℕ) × IsLiveAt new leaf number
  leaves_to leaf (inl old) =
      let is = (grown.leaves leaf).0 old.0 in
      elim (was linked joined is.0 _ is.1.2) [
        | inl left ↦ let page = left.1 in absurd (old.1 false cc)
        | inr rest ↦ elim rest [
          | inl upper ↦ let page = upper.1 in absurd (old.1 true cc)
          | inr stay ↦ (is.0, (is.1.0, is.1.1, stay.2))
        ]
      ]
  leaves_to leaf (inr parent) =
      let is : (number : ℕ) × IsLiveAt new prefix number = (at, (link, [], joined.merged)) in
      let P : List Bool → Type 0 = λ leaf. (number : ℕ) × IsLiveAt new leaf number in
      subst P (sym parent) is

  -- another live page has neither half's prefix
  no_half : (number : ℕ) (leaf : List Bool) → IsLiveAt pages leaf number → (number ≡ at → ⊥) → (number ≡ right → ⊥) → (bit : Bool) → leaf ≡ prefix ++ bit ∷ [] → ⊥
  no_half number leaf is else elsewhere false same = else (linked.apart number at _ _ is.2 joined.there (ap low_of same))
  no_half number leaf is else elsewhere true same = elsewhere (linked.apart number right _ _ is.2 joined.buddy (ap low_of same))

  leaves_from : (leaf : List Bool) (number : ℕ) → IsLiveAt new leaf number → United leaf
  leaves_from leaf number is = elim (became linked joined number _ is.2) [
    | inl here ↦ let page = here.1 in inr cc
    | inr rest ↦ elim rest [
      | inl there ↦ let page = there.1 in cc
      | inr old ↦ inl ((grown.leaves leaf).1 (number, (is.0, is.1, old.2)), no_half number leaf (is.0, is.1, old.2) old.0 old.1)
    ]
  ]

  -- the right half isn't page 0
  right_later : 0 < right
  right_later = elim (cases_eq right 0) [
    | inl same ↦ absurd (first_else linked joined linked.first.0 linked.first.1 linked.first.3 (sym same))
    | inr else ↦ omega arith
  ]

  for_each : (other : List Bool) → HasEntryEver start (changes ++ notice ∷ []) other → (number : ℕ) × (0 < number) × IsPageOf new (low_of (other ++ true ∷ [])) number
  for_each other told = elim (entry_ever_push start changes notice other told) [
    | inl old ↦
        let is = grown.for_each other old in
        let kept = stays linked joined is.0 is.2.0 is.2.1 in
        (is.0, is.1, (kept.0, kept.1, kept.2 ∙ is.2.2))
    | inr last ↦ (right, right_later, (Forward (low_of (prefix ++ true ∷ [])) at, joined.forwards, ap (λ p. low_of (p ++ true ∷ [])) (sym at_prefix ∙ last)))
  ]

  no_other : (number : ℕ) (page : Page) → IsAt new number page → 0 < number → (other : List Bool) × HasEntryEver start (changes ++ notice ∷ []) other × (low_bound page ≡ low_of (other ++ true ∷ []))
  no_other number page is some = elim (became linked joined number page is) [
    | inl here ↦
        let old = grown.no_other at (Live (prefix ++ false ∷ []) left_link []) joined.there (subst (λ n. 0 < n) here.0 some) in
        (old.0, entry_ever_more start changes notice old.0 old.1, ap low_bound here.1 ∙ sym (left_keeps prefix (short linked joined)) ∙ old.2)
    | inr rest ↦ elim rest [
      | inl there ↦ (notice.prefix, entry_ever_last start changes notice, ap low_bound there.1 ∙ ap (λ p. low_of (p ++ true ∷ [])) (sym at_prefix))
      | inr old ↦
          let was = grown.no_other number page old.2 some in
          (was.0, entry_ever_more start changes notice was.0 was.1, was.2)
    ]
  ]

  pub merge_grown : IsGrown ward start (changes ++ notice ∷ []) new
  merge_grown = record {
    leaves = λ leaf. (λ is. leaves_to leaf (to_united leaf is), λ is. from_united leaf (leaves_from leaf is.0 is.1));
    for_each = for_each;
    no_other = no_other;
  }
