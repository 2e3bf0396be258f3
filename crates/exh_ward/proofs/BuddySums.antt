-- Where a page and its right buddy have a sum, and where they have none.
use Rattle.std.proofs.Common.{◌≡◌, ℕ, ◌+◌, ◌≤◌, Bool, true, false, List, [], ◌∷◌, ◌++◌, length, Option, MatchOption, None, Some, inl, inr, sym, ap, ◌∙◌, subst, arith}
use Rattle.std.proofs.lemmas.Bool.{false≢true}
use Rattle.std.proofs.lemmas.List.{length_push, same_from_push}
use Rattle.std.proofs.lemmas.Option.{slice_get_within}
use Rattle.exh_prefix.specs.PrefixListLemmas.{one_there}
use Rattle.exh_page.specs.declared.page.Page.{Page}
use Rattle.exh_page.specs.declared.page.Page.TheVariants.{Live}
use Rattle.exh_page.specs.declared.page_head.PageHead.{PageHead}
use Rattle.exh_page.specs.declared.page_head.PageHead.TheVariants.{Live as LiveHead}
use Rattle.exh_stores.specs.PageStore.{HasHead}
use Rattle.exh_page.specs.PageHead.{head_of}
use Rattle.exh_legal.specs.LeftHalf.{IsLeftHalf}
use Rattle.exh_legal.specs.HalvesFault.{NoLeftHalf}
use Rattle.exh_legal.specs.declared.halves_fault.HalvesFault.{HalvesFault}
use Rattle.exh_legal.specs.declared.halves_fault.HalvesFault.TheVariants.{NotLive, NotFull, AtLimit, NoBuddy, BuddySplit, TooMany}
use Rattle.exh_legal.specs.declared.left_half.LeftHalf.{LeftHalf}
use Rattle.exh_legal.specs.LegalLaws.{LeftChildrenLinkToSiblings}
use Rattle.exh_legal.specs.PageIndex.{IndexMap}
use Rattle.exh_legal.specs.Pages.{IsAt}
use Rattle.exh_ward.specs.BuddySum.{HasBuddySum, HasSumBeside, IsBuddySum}
use Rattle.exh_ward.specs.WardKept.{IsKeptWard}
use Rattle.exh_ward.specs.WardState.{WardState, own_prefix}
use Rattle.exh_ward.proofs.Heads.{headed}
use Rattle.exh_ward.proofs.MergesAreSteps.{left_child, live_left, page_is, right_is, to_sibling}

module _ {K : Type 0} {pseudo : List ℕ → ℕ} {takes : Page → Type 0} {own : List Bool} {index : IndexMap} {told : ℕ} {w : WardState K} (kept : IsKeptWard pseudo takes own index told w) (at : ℕ) where
  pub none_past : length w.pages ≤ at → (sum : ℕ) → HasBuddySum w at sum → ⊥
  none_past past sum (prefix, records, others, left, buddy, is) = omega (arith, past, slice_get_within w.pages at (Live (prefix ++ false ∷ []) left.link records) left.there)

  -- a left half is refused nothing
  is_half : (prefix : List Bool) (link : Option ℕ) (count : ℕ) → length (own_prefix w) ≤ length prefix → (fault : HalvesFault) → NoLeftHalf own (LiveHead (prefix ++ false ∷ []) link count) fault → ⊥
  is_half prefix link count inner NotLive refused = refused tt
  is_half prefix link count inner NotFull refused = refused
  is_half prefix link count inner AtLimit refused = refused
  is_half prefix link count inner NoBuddy (bits, other_link, other_count, head, why) =
      let same : prefix ++ false ∷ [] ≡ bits = cc in
      elim why [
        | inl is ↦ omega (arith, inner, length_push prefix false, ap length (same ∙ is ∙ kept.own_is))
        | inr ends ↦ absurd (false≢true (same_from_push prefix ends.0 false true (same ∙ ends.1)).1)
      ]
  is_half prefix link count inner BuddySplit refused = refused
  is_half prefix link count inner (TooMany sum) refused = refused

  module _ {page : PageHead} (there : HasHead w.pages at page) where
    pub none_here : (fault : HalvesFault) → NoLeftHalf own page fault → (sum : ℕ) → HasBuddySum w at sum → ⊥
    none_here fault refused sum (prefix, records, others, left, buddy, is) =
        let live : there.0 ≡ Live (prefix ++ false ∷ []) left.link records = one_there w.pages at there.0 _ there.1 left.there in
        is_half prefix left.link (length records) left.inner fault (subst (λ page. NoLeftHalf own page fault) (there.2 ∙ ap head_of live) refused)

    module _ {half : LeftHalf} (is : IsLeftHalf own page half) (law : LeftChildrenLinkToSiblings) {right : ℕ} (linked : half.right ≡ Some right) {buddy : PageHead} (is_buddy : HasHead w.pages right buddy) where
      sum_here : (sum : ℕ) → HasSumBeside half buddy sum → HasBuddySum w at sum
      sum_here sum (link, count, head, sum_is) =
          let left = page_is kept at there is in
          let other = headed is_buddy.0 (half.parent ++ true ∷ []) link count (sym is_buddy.2 ∙ head) in
          (half.parent, left.records, other.records, left_child kept at there is, (right, link, is_buddy.1 ∙ ap Some other.live), omega (arith, sum_is, left.counted, other.counted))

      sum_beside : (sum : ℕ) → HasBuddySum w at sum → HasSumBeside half buddy sum
      sum_beside sum (prefix, records, others, left, (number, link, at_number), sum_is) =
          let here_is = page_is kept at there is in
          let same : Live (prefix ++ false ∷ []) left.link records ≡ Live (half.parent ++ false ∷ []) half.right here_is.records = one_there w.pages at _ _ left.there (live_left kept at there is) in
          let bits : prefix ++ false ∷ [] ≡ half.parent ++ false ∷ [] = cc in
          let parents : prefix ≡ half.parent = (same_from_push prefix half.parent false false bits).0 in
          let kept_records : records ≡ here_is.records = cc in
          let child : IsAt w.pages number (Live (half.parent ++ true ∷ []) link others) = subst (λ p. IsAt w.pages number (Live (p ++ true ∷ []) link others)) parents at_number in
          let here : number ≡ right = (to_sibling kept at there is law).sibling number (link, others, child) ∙ right_is kept at there is law linked in
          let live : is_buddy.0 ≡ Live (half.parent ++ true ∷ []) link others = one_there w.pages right is_buddy.0 _ is_buddy.1 (subst (λ n. IsAt w.pages n (Live (half.parent ++ true ∷ []) link others)) here child) in
          (link, length others, is_buddy.2 ∙ ap head_of live, sum_is ∙ ap (λ rs. length rs + length others) kept_records ∙ ap (λ n. n + length others) (sym here_is.counted))

      one_sum : (sum other : ℕ) → HasSumBeside half buddy sum → HasSumBeside half buddy other → other ≡ sum
      one_sum sum other (link, count, head, sum_is) (other_link, more, other_head, other_is) =
          let both : LiveHead (half.parent ++ true ∷ []) link count ≡ LiveHead (half.parent ++ true ∷ []) other_link more = sym head ∙ other_head in
          let same : count ≡ more = cc in
          other_is ∙ ap (λ n. half.count + n) (sym same) ∙ sym sum_is

      pub sum_is_told : (found : Option ℕ) → MatchOption found ((sum : ℕ) → HasSumBeside half buddy sum → ⊥) (HasSumBeside half buddy) → IsBuddySum w at found
      sum_is_told None none = λ sum has. none sum (sum_beside sum has)
      sum_is_told (Some sum) some = (sum_here sum some, λ other has. one_sum sum other some (sum_beside other has))
