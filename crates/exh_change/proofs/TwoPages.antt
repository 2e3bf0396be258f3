-- Two pages of a file in whose places others with the same low bounds stand.
use Rattle.std.proofs.Common.{◌≡◌, ◌≢◌, ℕ, List, take, slice_get, Some, sym, ap, ◌∙◌}
use Rattle.std.specs.Prelude.{slice_set}
use Rattle.exh_prefix.specs.Leading.{ward_of}
use Rattle.exh_prefix.specs.PrefixListLemmas.{set_else}
use Rattle.exh_page.specs.declared.page.Page.{Page}
use Rattle.exh_page.specs.Page.{low_bound}
use Rattle.exh_cells.specs.Fit.{pages_in}
use Rattle.exh_cells.specs.LegalPlaced.{pages_of_ward}
use Rattle.exh_cells.specs.PlacedFile.{lows_of}
use Rattle.exh_change.proofs.WardPlaces.{lows_set, set_other, set_own}

module _ (bits : ℕ) (pages : List Page) (one other : ℕ) (old old_other new new_other : Page) (one_is : slice_get pages one ≡ Some old) (other_is : slice_get pages other ≡ Some old_other)
    (same : low_bound new ≡ low_bound old) (same_other : low_bound new_other ≡ low_bound old_other) (apart : other ≢ one) where
  abbrev pub both : List Page
  both = slice_set (slice_set pages one new) other new_other

  other_still : slice_get (slice_set pages one new) other ≡ Some old_other
  other_still = set_else pages one other new apart ∙ other_is

  first_lows : lows_of (slice_set pages one new) ≡ lows_of pages
  first_lows = lows_set pages one old new one_is same

  pub lows_both : lows_of both ≡ lows_of pages
  lows_both = lows_set (slice_set pages one new) other old_other new_other other_still same_other ∙ first_lows

  pub own_both : (ward n m : ℕ) → ward_of bits (low_bound old) ≡ ward → ward_of bits (low_bound old_other) ≡ ward → n ≡ pages_in bits ward (take one (lows_of pages)) → m ≡ pages_in bits ward (take other (lows_of pages))
      → pages_of_ward bits both ward ≡ slice_set (slice_set (pages_of_ward bits pages ward) n new) m new_other
  own_both ward n m own own_other number number_other =
      let first : pages_of_ward bits (slice_set pages one new) ward ≡ slice_set (pages_of_ward bits pages ward) n new =
      set_own bits ward pages one old new one_is own (ap (ward_of bits) same ∙ own) ∙ ap (λ (n : ℕ). slice_set (pages_of_ward bits pages ward) n new) (sym number) in
      let second : pages_in bits ward (take other (lows_of (slice_set pages one new))) ≡ m = ap (λ (lows : List ℕ). pages_in bits ward (take other lows)) first_lows ∙ sym number_other in
      set_own bits ward (slice_set pages one new) other old_other new_other other_still own_other (ap (ward_of bits) same_other ∙ own_other) ∙ (λ i. slice_set (first i) (second i) new_other)

  pub others_both : (ward : ℕ) → ward_of bits (low_bound old) ≢ ward → ward_of bits (low_bound old_other) ≢ ward → pages_of_ward bits both ward ≡ pages_of_ward bits pages ward
  others_both ward else_one else_other =
      set_other bits ward (slice_set pages one new) other old_other new_other other_still else_other (λ own. else_other (ap (ward_of bits) (sym same_other) ∙ own))
      ∙ set_other bits ward pages one old new one_is else_one (λ own. else_one (ap (ward_of bits) (sym same) ∙ own))
