-- The pages of legal wards, in the order of their places, have the places that their tables ask for.
use Rattle.std.proofs.Common.{◌≡◌, ℕ, ◌<◌, ◌≤◌, ◌%◌, ◌^◌, Bool, nat_eq, eq-eqb, cond, true, false, List, [], ◌∷◌, ◌++◌, length, take, get_or, Option, None, Some, refl, sym, ap, ◌∙◌, subst, inl, inr, arith}
use Rattle.std.specs.FinMap.{empty, get}
use Rattle.std.specs.List.{count_by, slice_get}
use Rattle.std.specs.Option.{option_map}
use Rattle.std.proofs.lemmas.Bool.{cases_lt, eqb-true}
use Rattle.std.proofs.lemmas.Bool.Decides.{leb_tells}
use Rattle.std.proofs.lemmas.List.{take-map}
use Rattle.std.proofs.lemmas.List.FromFn.{get_or-map-range_with_len, length-map-range_with_len}
use Rattle.std.proofs.lemmas.Option.{get_or_from_slice_get, slice_get-get_or, slice_get-map, slice_get_within}
use Rattle.exh_prefix.specs.declared.prefix.TheConstants.{LIMIT, WARD_BITS_LIMIT}
use Rattle.exh_prefix.specs.Bits.{word_bits}
use Rattle.exh_prefix.specs.Leading.{ward_of, ward_prefix}
use Rattle.exh_prefix.specs.LeadingLemmas.{leading-lt}
use Rattle.exh_prefix.specs.LowLemmas.{begins_own_low, front_shorter, low_of-small}
use Rattle.exh_prefix.specs.Prefix.{Begins, IsFront, low_of}
use Rattle.exh_prefix.specs.PrefixLemmas.{begins_low, front_of_front, fronts_nest, lowest_cleared-right_child}
use Rattle.exh_prefix.specs.PrefixListLemmas.{one_there, within_there}
use Rattle.exh_notice.specs.declared.entry.Entry.{Entry}
use Rattle.exh_notice.specs.declared.entry.Kind.{Kind}
use Rattle.exh_notice.specs.declared.entry.Kind.TheVariants.{Merge, Split}
use Rattle.exh_table.specs.Table.{TableMap}
use Rattle.exh_table.specs.TableWalk.{right_of, right_of_kind, split_at}
use Rattle.exh_page.specs.declared.page.Page.{Page}
use Rattle.exh_page.specs.declared.page.Page.TheVariants.{Forward, Live}
use Rattle.exh_page.specs.Page.{low_bound}
use Rattle.exh_legal.specs.BareLemmas.{bare_at, bare_low}
use Rattle.exh_legal.specs.Fit.{FitsPages, parity_of}
use Rattle.exh_legal.specs.Growth.{IsLiveAt, IsPageOf}
use Rattle.exh_legal.specs.LegalParts.{parts_of}
use Rattle.exh_legal.specs.LegalPlaceLemmas.{page_full}
use Rattle.exh_legal.specs.Pages.{AreLinked, IsAt, IsHome, bare}
use Rattle.exh_legal.specs.ReasonLaws.{IsLegalFile}
use Rattle.exh_cells.specs.CellLaws.{AreApart}
use Rattle.exh_cells.specs.Fit.{pages_in}
use Rattle.exh_cells.specs.LegalPlaced.{pages_of_ward}
use Rattle.exh_cells.specs.PlacedFile.{lows_of}
use Rattle.exh_placing.specs.Placed.{HasPlaces, HavePlaces, kind_by}
use Rattle.exh_placing.specs.PlacingLaws.{wards_by}
use Rattle.exh_placing.proofs.Filtered.{counted_less, counted_map, filtered_from, filtered_to}

-- ---- entries of a legal ward

module _ (ward : List Bool) (table : TableMap) (pages : List Page) (linked : AreLinked ward pages) (fits : FitsPages ward table pages) where
  short_at : (prefix : List Bool) (entry : Entry) (kind : Kind) → entry.kind ≡ kind → get table prefix ≡ Some entry → length prefix < LIMIT
  short_at prefix entry (Split right) is found =
      let split : split_at table prefix ≡ Some right = ap right_of found ∙ ap right_of_kind is in
      let inner = ((fits.splits prefix).0 (right, split)).1 in
      omega (arith, inner.3.1, (linked.within inner.1 _ inner.2.2).1)
  short_at prefix entry Merge is found = ((fits.merges prefix).0 (entry.number, found ∙ ap (λ (kind : Kind). Some (record { number = entry.number; kind = kind })) is)).0

  -- the home of the low bound of a proper front of a leaf has that low bound
  left_home : (prefix leaf : List Bool) (number : ℕ) → IsLiveAt pages leaf number → IsFront prefix leaf → length prefix < length leaf → (other : ℕ) (page : Page) → IsAt pages other page → IsHome page (low_of prefix)
      → low_bound page ≡ low_of prefix
  left_home prefix leaf number live front less other (Live own right records) at home =
      let leaf_short : length leaf ≤ LIMIT = (linked.within number _ live.2).1 in
      let few : length prefix ≤ LIMIT = omega (arith, less, leaf_short) in
      let own_short : length own ≤ LIMIT = (linked.within other _ at).1 in
      elim (leb_tells (length prefix) (length own)) [
        | inl longer ↦
            let front_own : IsFront prefix own = fronts_nest prefix own (word_bits (low_of prefix)) longer.1 (begins_own_low prefix few) home in
            let begun : Begins prefix (low_of own) = front_of_front prefix own (word_bits (low_of own)) longer.1 front_own (begins_own_low own own_short) in
            let above = begins_low prefix (low_of own) (omega (arith, few)) (low_of-small own own_short) begun in
            let reach = begins_low own (low_of prefix) (omega (arith, own_short)) (low_of-small prefix few) home in
            omega (arith, above.0, reach.0)
        | inr shorter ↦
            let own_less : length own ≤ length prefix = omega (arith, shorter.1) in
            let own_front : IsFront own prefix = fronts_nest own prefix (word_bits (low_of prefix)) own_less home (begins_own_low prefix few) in
            let own_leaf : IsFront own leaf = front_of_front own prefix leaf own_less own_front front in
            let both : Begins own (low_of leaf) = front_of_front own leaf (word_bits (low_of leaf)) (omega (arith, own_less, less)) own_leaf (begins_own_low leaf leaf_short) in
            let same = linked.one_home (low_of leaf) other number (Live own right records) _ at live.2 both (begins_own_low leaf leaf_short) in
            let alike = one_there pages number (Live own right records) _ (subst (λ (n : ℕ). IsAt pages n (Live own right records)) same at) live.2 in
            let equal : own ≡ leaf = cc in
            absurd (omega (arith, ap length equal, shorter.1, less))
      ]
  left_home prefix leaf number live front less other (Forward low target) at home = absurd home

  -- the page of the prefix's low bound
  left_page : (prefix : List Bool) (entry : Entry) (kind : Kind) → entry.kind ≡ kind → get table prefix ≡ Some entry → (number : ℕ) × IsPageOf pages (low_of prefix) number
  left_page prefix entry (Split right) is found =
      let split : split_at table prefix ≡ Some right = ap right_of found ∙ ap right_of_kind is in
      let said = (fits.splits prefix).0 (right, split) in
      let inner = said.1 in
      let few : length prefix ≤ LIMIT = omega (arith, inner.3.1, (linked.within inner.1 _ inner.2.2).1) in
      let begun : Begins ward (low_of prefix) = front_of_front ward prefix (word_bits (low_of prefix)) (front_shorter ward prefix said.0) said.0 (begins_own_low prefix few) in
      let home = linked.home (low_of prefix) (low_of-small prefix few) begun in
      (home.0, (home.1, home.2, left_home prefix inner.0 inner.1 inner.2 inner.3.0 inner.3.1 home.0 home.1 home.2 home.3))
  left_page prefix entry Merge is found =
      let said = (fits.merges prefix).0 (entry.number, found ∙ ap (λ (kind : Kind). Some (record { number = entry.number; kind = kind })) is) in
      let forward = said.1 in
      let target = linked.links forward.0 (Forward (low_of (prefix ++ true ∷ [])) forward.1.0) forward.1.1 in
      (forward.1.0, (target.0, target.1, target.2 ∙ lowest_cleared-right_child prefix (omega (arith, said.0))))

  -- the page of the right child's low bound, whose number a split names
  right_page : (prefix : List Bool) (entry : Entry) (kind : Kind) → entry.kind ≡ kind → get table prefix ≡ Some entry
      → (number : ℕ) × IsPageOf pages (low_of (prefix ++ true ∷ [])) number × (entry.kind ≡ kind_by entry.number number)
  right_page prefix entry (Split right) is found =
      let split : split_at table prefix ≡ Some right = ap right_of found ∙ ap right_of_kind is in
      let odd : entry.number % 2 ≡ 1 = (fits.entries prefix entry found).parity ∙ ap parity_of is in
      (right, fits.rights prefix right split, is ∙ sym (ap (λ (b : Bool). cond b (Split right) Merge) (eq-eqb (entry.number % 2) 1 odd)))
  right_page prefix entry Merge is found =
      let said = (fits.merges prefix).0 (entry.number, found ∙ ap (λ (kind : Kind). Some (record { number = entry.number; kind = kind })) is) in
      let forward = said.1 in
      let even : entry.number % 2 ≡ 0 = (fits.entries prefix entry found).parity ∙ ap parity_of is in
      let not_odd : nat_eq (entry.number % 2) 1 ≡ false = ap (λ (n : ℕ). nat_eq n 1) even in
      (forward.0, (Forward (low_of (prefix ++ true ∷ [])) forward.1.0, forward.1.1, refl), is ∙ sym (ap (λ (b : Bool). cond b (Split forward.0) Merge) not_odd))

-- ---- places of a ward's pages

from_low : (found : Option Page) (low : ℕ) → option_map low_bound found ≡ Some low → (page : Page) × (found ≡ Some page) × (low_bound page ≡ low)
from_low None low is = cc
from_low (Some page) low is = (page, refl, cc)

module _ (ward_bits : ℕ) (pages : List Page) where
  abbrev is_own : ℕ → Page → Bool
  is_own ward page = nat_eq (ward_of ward_bits (low_bound page)) ward

  abbrev lows : List ℕ
  lows = lows_of pages

  -- how many of the ward's pages stand before a place
  own_before : (ward place : ℕ) → pages_in ward_bits ward (take place lows) ≡ count_by (is_own ward) (take place pages)
  own_before ward place = ap (pages_in ward_bits ward) (take-map low_bound place pages) ∙ counted_map low_bound (λ low. nat_eq (ward_of ward_bits low) ward) (take place pages)

  low_there : (place : ℕ) (page : Page) → slice_get pages place ≡ Some page → slice_get lows place ≡ Some (low_bound page)
  low_there place page is = slice_get-map low_bound pages place ∙ ap (option_map low_bound) is

  record HasNumber (ward low number : ℕ) : Type 0 where
    place : ℕ
    page_is : slice_get lows place ≡ Some low
    ward_is : ward_of ward_bits low ≡ ward
    counted : pages_in ward_bits ward (take place lows) ≡ number

  place_of_number : (ward low number : ℕ) → IsPageOf (pages_of_ward ward_bits pages ward) low number → HasNumber ward low number
  place_of_number ward low number page =
      let stands = filtered_from (is_own ward) pages number page.0 page.1 in
      record {
        place = stands.place;
        page_is = low_there stands.place page.0 stands.there ∙ ap (λ (low : ℕ). Some low) page.2;
        ward_is = ap (ward_of ward_bits) (sym page.2) ∙ eqb-true (ward_of ward_bits (low_bound page.0)) ward stands.passes;
        counted = own_before ward stands.place ∙ stands.counted;
      }

  -- ---- all wards

  module _ (tables : List TableMap) (few : ward_bits ≤ WARD_BITS_LIMIT) (count : length tables ≡ 2 ^ ward_bits)
      (legal : (ward : ℕ) (table : TableMap) → slice_get tables ward ≡ Some table
      → AreLinked (ward_prefix ward_bits ward) (bare (pages_of_ward ward_bits pages ward)) × FitsPages (ward_prefix ward_bits ward) table (bare (pages_of_ward ward_bits pages ward))) where
    entry_placed : (ward : ℕ) (table : TableMap) (prefix : List Bool) (entry : Entry) → slice_get tables ward ≡ Some table → get table prefix ≡ Some entry → HasPlaces ward_bits lows ward prefix entry
    entry_placed ward table prefix entry there is =
        let own = bare (pages_of_ward ward_bits pages ward) in
        let prefix_of_ward = ward_prefix ward_bits ward in
        let both = legal ward table there in
        let left = left_page prefix_of_ward table own both.0 both.1 prefix entry entry.kind refl is in
        let right = right_page prefix_of_ward table own both.0 both.1 prefix entry entry.kind refl is in
        let left_place = place_of_number ward (low_of prefix) left.0 (page_full (pages_of_ward ward_bits pages ward) (low_of prefix) left.0 left.1) in
        let right_place = place_of_number ward (low_of (prefix ++ true ∷ [])) right.0 (page_full (pages_of_ward ward_bits pages ward) (low_of (prefix ++ true ∷ [])) right.0 right.1) in
        record {
          short = short_at prefix_of_ward table own both.0 both.1 prefix entry entry.kind refl is;
          some = λ none. let some = (both.1.entries prefix entry is).some in omega (arith, some, none);
          left = left_place.place;
          left_is = left_place.page_is;
          right = right_place.place;
          right_is = right_place.page_is;
          own = left_place.ward_is;
          kind_is = right.2 ∙ ap (kind_by entry.number) (sym (ap (λ (ward : ℕ). pages_in ward_bits ward (take right_place.place lows)) right_place.ward_is ∙ right_place.counted));
        }

    pub all_placed : HavePlaces ward_bits lows tables
    all_placed = record { count = count; each = entry_placed }

    page_there : (place low : ℕ) → slice_get lows place ≡ Some low → (page : Page) × (slice_get pages place ≡ Some page) × (low_bound page ≡ low)
    page_there place low is = from_low (slice_get pages place) low (sym (slice_get-map low_bound pages place) ∙ is)

    pub all_apart : AreApart lows
    all_apart one other low is too =
        let ward = ward_of ward_bits low in
        let own = pages_of_ward ward_bits pages ward in
        let table = within_there tables ward (omega (arith, leading-lt ward_bits low (omega (arith, few)), count)) in
        let linked = (legal ward table.0 table.1).0 in
        let page = page_there one low is in
        let twin = page_there other low too in
        let passes = eq-eqb (ward_of ward_bits (low_bound page.0)) ward (ap (ward_of ward_bits) page.2) in
        let twin_passes = eq-eqb (ward_of ward_bits (low_bound twin.0)) ward (ap (ward_of ward_bits) twin.2) in
        let at = bare_at own _ page.0 (filtered_to (is_own ward) pages one page.0 page.1 passes) in
        let twin_at = bare_at own _ twin.0 (filtered_to (is_own ward) pages other twin.0 twin.1 twin_passes) in
        let same = linked.apart _ _ _ _ at twin_at (bare_low page.0 ∙ page.2 ∙ sym (bare_low twin.0 ∙ twin.2)) in
        elim (cases_lt one other) [
          | inl less ↦ absurd (omega (arith, same, counted_less (is_own ward) pages one other page.0 less page.1 passes))
          | inr not_less ↦ elim (cases_lt other one) [
            | inl more ↦ absurd (omega (arith, same, counted_less (is_own ward) pages other one twin.0 more twin.1 twin_passes))
            | inr not_more ↦ omega (arith, not_less, not_more)
          ]
        ]

-- ---- a legal file

module _ (pseudo : List ℕ → ℕ) (cap ward_bits : ℕ) (pages : List Page) (tables : List TableMap) (legal : IsLegalFile pseudo (parts_of cap ward_bits (wards_by ward_bits pages) tables)) (count : length tables ≡ 2 ^ ward_bits) where
  pub legal_ward : (ward : ℕ) (table : TableMap) → slice_get tables ward ≡ Some table
      → AreLinked (ward_prefix ward_bits ward) (bare (pages_of_ward ward_bits pages ward)) × FitsPages (ward_prefix ward_bits ward) table (bare (pages_of_ward ward_bits pages ward))
  legal_ward ward table there =
      let within : ward < 2 ^ ward_bits = omega (arith, slice_get_within tables ward table there, count) in
      let wards = wards_by ward_bits pages in
      let long = length-map-range_with_len (pages_of_ward ward_bits pages) 0 (2 ^ ward_bits) in
      let own : slice_get wards ward ≡ Some (pages_of_ward ward_bits pages ward) =
      slice_get-get_or wards ward [] (omega (arith, within, long))
      ∙ ap (λ (pages : List Page). Some pages) (get_or-map-range_with_len (pages_of_ward ward_bits pages) 0 (2 ^ ward_bits) ward ward [] within (omega arith)) in
      let is = legal.wards ward (pages_of_ward ward_bits pages ward) own in
      let table_is : get_or tables ward empty ≡ table = get_or_from_slice_get tables ward table empty there in
      (is.legal.legal.linked, subst (λ (table : TableMap). FitsPages (ward_prefix ward_bits ward) table (bare (pages_of_ward ward_bits pages ward))) table_is is.fits)
