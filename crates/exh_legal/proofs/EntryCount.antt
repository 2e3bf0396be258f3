-- A table that fits the pages of a ward has fewer entries than there are prefixes of LIMIT bits in it.
use Rattle.std.proofs.Common.{◌≡◌, ℕ, zero, suc, ◌-◌, ◌^◌, ◌<◌, ◌≤◌, Bool, true, false, cond, List, [], ◌∷◌, ◌++◌, length, map, slice_get, T, Option, None, Some, refl, sym, ap, ◌∙◌, subst, arith}
use Rattle.std.specs.FinMap as fin
use Rattle.std.specs.FinMap.Entries.{find, is_sorted, below_all}
use Rattle.std.specs.Option.{option_map}
use Rattle.std.specs.Ordering.{eq_by_cmp, is_eq, is_lt}
use Rattle.std.proofs.lemmas.Bool.{false_from_ne_true}
use Rattle.std.proofs.lemmas.Cmp.{tied_itself}
use Rattle.std.proofs.lemmas.List.{length-map}
use Rattle.std.proofs.lemmas.Option.{slice_get-map}
use Rattle.exh_prefix.specs.declared.prefix.TheConstants.{LIMIT}
use Rattle.exh_prefix.specs.Prefix.{IsFront, low_of, prefix_cmp}
use Rattle.exh_prefix.specs.PrefixLemmas.{begins_low, front_of_front, prefix_cmp-exact, prefix_cmp-total}
use Rattle.exh_table.specs.declared.Entry.{Entry}
use Rattle.exh_table.specs.declared.Kind.{Kind}
use Rattle.exh_table.specs.declared.Kind.TheVariants.{Split, Merge}
use Rattle.exh_prefix.specs.PrefixListLemmas.{first_part, is_equal, second_part}
use Rattle.exh_table.specs.Table.{TableMap}
use Rattle.exh_table.specs.TableWalk.{right_of, right_of_kind, split_at}
use Rattle.exh_page.specs.declared.page.Page.{Page}
use Rattle.exh_page.specs.declared.page.Page.TheVariants.{Live}
use Rattle.exh_page.specs.Page.{low_bound}
use Rattle.exh_legal.specs.Fit.{FitsPages}
use Rattle.exh_prefix.specs.LowLemmas.{begins_own_low, child_short, front_of_longer, front_shorter, low_of-small, own_front, right_above, right_tells_parent}
use Rattle.exh_legal.specs.Pages.{AreLinked, bare, IsAt, IsWithin}
use Rattle.exh_legal.proofs.PageCount.{page_count}

-- ---- entries in the order of their prefixes

below_itself : (prefix other : List Bool) → prefix ≡ other → T (is_lt (prefix_cmp prefix other)) → ⊥
below_itself prefix other same less = subst (λ o. T (is_lt o)) (ap (prefix_cmp prefix) (sym same) ∙ tied_itself prefix_cmp-total prefix) less

above_differ : (prefix : List Bool) (es : List (List Bool × Entry)) → T (below_all prefix_cmp prefix es) → (place : ℕ) (e : List Bool × Entry) → slice_get es place ≡ Some e → prefix ≡ e.0 → ⊥
above_differ prefix [] above place e is same = cc
above_differ prefix (first ∷ es) above zero e is same =
    let here : first ≡ e = cc in
    below_itself prefix first.0 (same ∙ ap (λ (pair : List Bool × Entry). pair.0) (sym here)) (first_part _ _ above)
above_differ prefix (first ∷ es) above (suc place) e is same = above_differ prefix es (second_part _ _ above) place e is same

one_place : (es : List (List Bool × Entry)) → T (is_sorted prefix_cmp es) → (one other : ℕ) (e twin : List Bool × Entry) → slice_get es one ≡ Some e → slice_get es other ≡ Some twin → e.0 ≡ twin.0 → one ≡ other
one_place [] sorted one other e twin is too same = cc
one_place (first ∷ es) sorted zero zero e twin is too same = refl
one_place (first ∷ es) sorted zero (suc other) e twin is too same =
    let here : first ≡ e = cc in
    absurd (above_differ first.0 es (first_part _ _ sorted) other twin too (ap (λ (pair : List Bool × Entry). pair.0) here ∙ same))
one_place (first ∷ es) sorted (suc one) zero e twin is too same =
    let here : first ≡ twin = cc in
    absurd (above_differ first.0 es (first_part _ _ sorted) one e is (ap (λ (pair : List Bool × Entry). pair.0) here ∙ sym same))
one_place (first ∷ es) sorted (suc one) (suc other) e twin is too same = ap suc (one_place es (second_part _ _ sorted) one other e twin is too same)

found_at : (es : List (List Bool × Entry)) → T (is_sorted prefix_cmp es) → (place : ℕ) (e : List Bool × Entry) → slice_get es place ≡ Some e → find prefix_cmp e.0 es ≡ Some e.1
found_at [] sorted place e is = cc
found_at (first ∷ es) sorted zero e is =
    let here : first ≡ e = cc in
    subst (λ (e : List Bool × Entry). find prefix_cmp e.0 (first ∷ es) ≡ Some e.1) here (ap (λ o. cond (is_eq o) (Some first.1) (find prefix_cmp first.0 es)) (tied_itself prefix_cmp-total first.0))
found_at (first ∷ es) sorted (suc place) e is =
    let differs : eq_by_cmp prefix_cmp e.0 first.0 ≡ false =
    false_from_ne_true _ (λ tied. above_differ first.0 es (first_part _ _ sorted) place e is (sym (prefix_cmp-exact e.0 first.0 (is_equal (prefix_cmp e.0 first.0) tied)))) in
    ap (λ b. cond b (Some first.1) (find prefix_cmp e.0 es)) differs ∙ found_at es (second_part _ _ sorted) place e is

-- ---- a page of the right child's low bound for each entry, and one of the ward's

abbrev page_for : List Bool × Entry → Page
page_for e = Live (e.0 ++ true ∷ []) None []

entry_from : (found : Option (List Bool × Entry)) (page : Page) → option_map page_for found ≡ Some page → (e : List Bool × Entry) × (found ≡ Some e) × (page_for e ≡ page)
entry_from None page is = cc
entry_from (Some e) page is = (e, refl, cc)

entry_at : (es : List (List Bool × Entry)) (place : ℕ) (page : Page) → slice_get (map page_for es) place ≡ Some page → (e : List Bool × Entry) × (slice_get es place ≡ Some e) × (page_for e ≡ page)
entry_at es place page is = entry_from (slice_get es place) page (sym (slice_get-map page_for es place) ∙ is)

module _ {ward : List Bool} {table : TableMap} (pages : List Page) (short : length ward ≤ LIMIT) (linked : AreLinked ward (bare pages)) (fits : FitsPages ward table (bare pages)) where
  short_at : (prefix : List Bool) (entry : Entry) (kind : Kind) → entry.kind ≡ kind → fin.get table prefix ≡ Some entry → length prefix < LIMIT
  short_at prefix entry (Split right) is found =
      let split : split_at table prefix ≡ Some right = ap right_of found ∙ ap right_of_kind is in
      let inner = ((fits.splits prefix).0 (right, split)).1 in
      omega (arith, inner.3.1, (linked.within inner.1 _ inner.2.2).1)
  short_at prefix entry Merge is found = ((fits.merges prefix).0 (entry.number, found ∙ ap (λ kind. Some (record { number = entry.number; kind = kind })) is)).0

  -- an entry's prefix is shorter than LIMIT, and has the ward's in front
  entry_within : (place : ℕ) (e : List Bool × Entry) → slice_get (fin.entries table) place ≡ Some e → (length e.0 < LIMIT) × IsFront ward e.0
  entry_within place e is =
      let found : fin.get table e.0 ≡ Some e.1 = fin.get-entries table e.0 ∙ found_at (fin.entries table) (fin.entries_sorted table) place e is in
      (short_at e.0 e.1 e.1.kind refl found, (fits.entries e.0 e.1 found).within)

  abbrev pages_for : List Page
  pages_for = Live ward None [] ∷ map page_for (fin.entries table)

  all_within : (number : ℕ) (page : Page) → IsAt pages_for number page → IsWithin ward page
  all_within zero page is = let here : Live ward None [] ≡ page = cc in subst (IsWithin ward) here (own_front ward, short)
  all_within (suc number) page is =
      let entry = entry_at (fin.entries table) number page is in
      let within = entry_within number entry.0 entry.1 in
      subst (IsWithin ward) entry.2 (front_of_longer ward entry.0.0 (true ∷ []) within.1, child_short entry.0.0 true within.0)

  -- the ward's low bound is below that of each right child
  above_ward : (place : ℕ) (e : List Bool × Entry) → slice_get (fin.entries table) place ≡ Some e → low_of ward ≡ low_of (e.0 ++ true ∷ []) → ⊥
  above_ward place e is same =
      let within = entry_within place e is in
      let few : length e.0 ≤ LIMIT = omega (arith, within.0) in
      let begun = front_of_front ward e.0 _ (front_shorter ward e.0 within.1) within.1 (begins_own_low e.0 few) in
      let reach = begins_low ward (low_of e.0) (omega (arith, short)) (low_of-small e.0 few) begun in
      omega (arith, same, reach.0, right_above e.0 within.0)

  apart : (one other : ℕ) (page twin : Page) → IsAt pages_for one page → IsAt pages_for other twin → low_bound page ≡ low_bound twin → one ≡ other
  apart zero zero page twin is too same = refl
  apart zero (suc other) page twin is too same =
      let entry = entry_at (fin.entries table) other twin too in
      let here : Live ward None [] ≡ page = cc in
      absurd (above_ward other entry.0 entry.1 (ap low_bound here ∙ same ∙ ap low_bound (sym entry.2)))
  apart (suc one) zero page twin is too same =
      let entry = entry_at (fin.entries table) one page is in
      let here : Live ward None [] ≡ twin = cc in
      absurd (above_ward one entry.0 entry.1 (ap low_bound here ∙ sym same ∙ ap low_bound (sym entry.2)))
  apart (suc one) (suc other) page twin is too same =
      let entry = entry_at (fin.entries table) one page is in
      let second = entry_at (fin.entries table) other twin too in
      let prefixes = right_tells_parent entry.0.0 second.0.0 (entry_within one entry.0 entry.1).0 (entry_within other second.0 second.1).0 (ap low_bound entry.2 ∙ same ∙ ap low_bound (sym second.2)) in
      ap suc (one_place (fin.entries table) (fin.entries_sorted table) one other entry.0 second.0 entry.1 second.1 prefixes)

  pub entry_count : length (fin.entries table) < 2 ^ (LIMIT - length ward)
  entry_count = omega (arith, page_count pages_for short all_within apart, length-map (fin.entries table) page_for)
