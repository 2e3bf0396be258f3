-- What holds before a live page is split.
use Rattle.std.proofs.Common.{◌≡◌, ℕ, ◌<◌, Bool, true, List, [], ◌∷◌, ◌++◌, length, Some, sym, ap, ◌∙◌, subst, arith}
use Rattle.exh_prefix.specs.declared.prefix.TheConstants.{LIMIT}
use Rattle.exh_prefix.specs.Prefix.{Begins, low_of}
use Rattle.exh_prefix.specs.PrefixLemmas.{parent_begins}
use Rattle.exh_table.specs.Table.{TableMap}
use Rattle.exh_page.specs.declared.page.Page.{Page}
use Rattle.exh_page.specs.declared.page.Page.TheVariants.{Live, Forward}
use Rattle.exh_page.specs.Page.{low_bound}
use Rattle.exh_legal.specs.Pages.{IsAt, AreLinked, bare}
use Rattle.exh_legal.specs.Change.{IsForwardOf}
use Rattle.exh_legal.specs.Growth.{IsLiveAt}
use Rattle.exh_legal.specs.Fit.{FitsPages}
use Rattle.exh_legal.specs.LegalLaws.{IsSplittable}
use Rattle.exh_legal.specs.BareLemmas.{bare_at}
use Rattle.exh_prefix.specs.LowLemmas.{right_above, begins_own_low, child_short}
use Rattle.exh_prefix.specs.PrefixListLemmas.{one_there}
use Rattle.exh_legal.proofs.SplitFit.{no_inner, even_at}

module _ {ward : List Bool} {table : TableMap} (pages : List Page) (linked : AreLinked ward (bare pages)) (fits : FitsPages ward table (bare pages)) {prefix : List Bool} (number : ℕ) (live : IsLiveAt pages prefix number) (short : length prefix < LIMIT) where
  here : IsLiveAt (bare pages) prefix number
  here = (live.0, [], bare_at pages number _ live.2)

  -- no live page has the right child's low bound, which the page's own prefix begins
  not_live : (other : ℕ) (page : Page) → IsAt pages other page → low_bound page ≡ low_of (prefix ++ true ∷ []) → IsForwardOf pages (low_of (prefix ++ true ∷ [])) other
  not_live other (Forward low target) is same = (target, is ∙ ap (λ low. Some (Forward low target)) same)
  not_live other (Live own link records) is same =
      let twin = bare_at pages other _ is in
      let few = (linked.within other _ twin).1 in
      let begins : Begins prefix (low_of own) = subst (Begins prefix) (sym same) (parent_begins prefix _ true (begins_own_low (prefix ++ true ∷ []) (child_short prefix true short))) in
      let one = linked.one_home (low_of own) number other _ _ here.2 twin begins (begins_own_low own few) in
      let same_low : low_of prefix ≡ low_of own = ap low_bound (one_there (bare pages) other _ _ (subst (λ n. IsAt (bare pages) n (Live prefix here.0 here.1)) one here.2) twin) in
      absurd (omega (arith, same_low, same, right_above prefix short))

  pub splittable : IsSplittable table pages prefix
  splittable = record {
    even = even_at ward table (bare pages) fits prefix (λ split. no_inner ward (bare pages) linked prefix number here ((fits.splits prefix).0 split).1);
    forwards = λ other page. not_live other page.0 page.1 page.2;
  }
