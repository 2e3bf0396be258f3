-- Files that are made of legal wards.
use Rattle.std.proofs.Common.{◌≡◌, ℕ, suc, ◌<◌, ◌≤◌, ◌^◌, nat_eq, eq-eqb, Bool, List, [], ◌∷◌, ◌++◌, length, map, take, get_or, None, Some, refl, sym, ap, ◌∙◌, subst, inl, inr, arith, zero, Option}
use Rattle.std.specs.List.{count_by, filter, slice_get, flat_map}
use Rattle.std.specs.Option.{option_map, option_to_list}
use Rattle.std.proofs.lemmas.Bool.{cases_lt, eqb-true}
use Rattle.std.proofs.lemmas.List.{get_or_past, length-map, take-map, take_all}
use Rattle.std.proofs.lemmas.List.FromFn.{get_or-map-range_with_len, length-map-range_with_len}
use Rattle.std.proofs.lemmas.List.Sums.{length-filter}
use Rattle.std.proofs.lemmas.Option.{get_or_from_slice_get, slice_get-get_or, slice_get-map, slice_get_within}
use Rattle.exh_keyer.specs.Pseudokey.{any_pseudokey}
use Rattle.exh_prefix.specs.declared.prefix.TheConstants.{WARD_BITS_LIMIT}
use Rattle.exh_prefix.specs.Bits.{word_bits}
use Rattle.exh_prefix.specs.BitLemmas.{length-bits_of, number_of-bits_of}
use Rattle.exh_prefix.specs.Leading.{leading, ward_of, ward_prefix}
use Rattle.exh_prefix.specs.LeadingLemmas.{leading-of_begun}
use Rattle.exh_prefix.specs.LowLemmas.{begins_own_low, front_shorter}
use Rattle.exh_prefix.specs.Prefix.{Begins, low_of}
use Rattle.exh_prefix.specs.PrefixLemmas.{front_of_front}
use Rattle.exh_prefix.specs.PrefixListLemmas.{one_there, within_there}
use Rattle.exh_table.specs.Table.{TableMap}
use Rattle.exh_page.specs.declared.page.Page.{Page}
use Rattle.exh_page.specs.declared.page.Page.TheVariants.{Forward, Live}
use Rattle.exh_page.specs.Page.{low_bound, with_records}
use Rattle.exh_legal.specs.BareLemmas.{bare_at, bare_low}
use Rattle.exh_legal.specs.LegalParts.{parts_of}
use Rattle.exh_legal.specs.Pages.{IsWithin}
use Rattle.exh_legal.specs.ReasonLaws.{IsLegalFile}
use Rattle.exh_cells.specs.CellLaws.{CellsTellTables}
use Rattle.exh_cells.specs.Fit.{BeginWards, FitsCells, pages_in}
use Rattle.exh_cells.specs.LegalPlaced.{IsLegalPlaced, pages_of_ward}
use Rattle.exh_cells.specs.PlacedFile.{PlacedFile, lows_of}
use Rattle.exh_placing.specs.declared.page_at.PageAt.{PageAt}
use Rattle.exh_placing.specs.Order.{BeginsWithFirsts, IsOrderOf, own_in}
use Rattle.exh_placing.specs.PlacingLaws.{wards_by}
use Rattle.exh_placing.specs.WardFile.{ArePagesOf, IsFileOfWards, IsLegalFileOf, pages_named}
use Rattle.exh_placing.proofs.Filtered.{counted_less, counted_map, filtered_from}

same_lists : {X : Type 0} (one other : List X) → length one ≡ length other → ((i : ℕ) (x y : X) → slice_get one i ≡ Some x → slice_get other i ≡ Some y → x ≡ y) → one ≡ other
same_lists [] [] len agree = refl
same_lists [] (y ∷ other) len agree = absurd (omega (arith, len))
same_lists (x ∷ one) [] len agree = absurd (omega (arith, len))
same_lists {X} (x ∷ one) (y ∷ other) len agree =
    ap (λ (x : X). x ∷ one) (agree 0 x y refl refl) ∙ ap (λ (rest : List X). y ∷ rest) (same_lists one other (omega (arith, len)) (λ i. agree (suc i)))

-- ---- a page of a legal ward is the ward's

begun_ward : (ward_bits ward low : ℕ) → ward < 2 ^ ward_bits → Begins (ward_prefix ward_bits ward) low → ward_of ward_bits low ≡ ward
begun_ward ward_bits ward low less begun =
    ap (λ (n : ℕ). leading n low) (sym (length-bits_of ward_bits ward)) ∙ leading-of_begun (ward_prefix ward_bits ward) low begun ∙ number_of-bits_of ward_bits ward less

within_begun : (ward : List Bool) (page : Page) → IsWithin ward page → Begins ward (low_bound page)
within_begun ward (Live prefix right records) within = front_of_front ward prefix (word_bits (low_of prefix)) (front_shorter ward prefix within.0) within.0 (begins_own_low prefix within.1)
within_begun ward (Forward low target) within = within.1

module _ (pseudo : List ℕ → ℕ) (cap ward_bits : ℕ) (wards : List (List Page)) (tables : List TableMap) (order : List PageAt) (pages : List Page) (few : ward_bits ≤ WARD_BITS_LIMIT) (count : length wards ≡ 2 ^ ward_bits)
    (legal : IsLegalFile pseudo (parts_of cap ward_bits wards tables)) (ordered : IsOrderOf (map length wards) order) (are : ArePagesOf wards order pages) where
  own_page : (ward number : ℕ) (own : List Page) (page : Page) → slice_get wards ward ≡ Some own → slice_get own number ≡ Some page → ward_of ward_bits (low_bound page) ≡ ward
  own_page ward number own page there at =
      let is = legal.wards ward own there in
      let within = is.legal.legal.linked.within number (with_records [] page) (bare_at own number page at) in
      let begun = within_begun (ward_prefix ward_bits ward) (with_records [] page) within in
      begun_ward ward_bits ward (low_bound page) (omega (arith, slice_get_within wards ward own there, count)) (subst (Begins (ward_prefix ward_bits ward)) (bare_low page) begun)

  -- a ward that isn't there has no page
  ward_there : (ward number : ℕ) (page : Page) → slice_get (get_or wards ward []) number ≡ Some page → slice_get wards ward ≡ Some (get_or wards ward [])
  ward_there ward number page is = elim (cases_lt ward (length wards)) [
    | inl within ↦ slice_get-get_or wards ward [] within
    | inr past ↦
        let clash : None ≡ Some page = ap (λ (pages : List Page). slice_get pages number) (sym (get_or_past wards ward [] past)) ∙ is in
        cc
  ]

  -- what stands at a place
  placed_at : (place : ℕ) (at : PageAt) (page : Page) → slice_get order place ≡ Some at → slice_get pages place ≡ Some page → (slice_get (get_or wards at.ward []) at.number ≡ Some page) × (ward_of ward_bits (low_bound page) ≡ at.ward)
  placed_at place at page is page_is =
      let there = sym (are.each place at is) ∙ page_is in
      (there, own_page at.ward at.number (get_or wards at.ward []) page (ward_there at.ward at.number page there) there)

  abbrev page_ward : Page → ℕ
  page_ward page = ward_of ward_bits (low_bound page)

  abbrev at_ward : PageAt → ℕ
  at_ward at = at.ward

  abbrev is_own : ℕ → Page → Bool
  is_own ward page = nat_eq (page_ward page) ward

  at_place : (place : ℕ) (page : Page) → slice_get pages place ≡ Some page → (at : PageAt) × (slice_get order place ≡ Some at)
  at_place place page is = within_there order place (omega (arith, are.count, slice_get_within pages place page is))

  same_wards : map page_ward pages ≡ map at_ward order
  same_wards = same_lists (map page_ward pages) (map at_ward order) (length-map pages page_ward ∙ are.count ∙ sym (length-map order at_ward)) (λ place one other is too.
      let within : place < length pages = omega (arith, slice_get_within (map page_ward pages) place one is, length-map pages page_ward) in
      let page = within_there pages place within in
      let at = at_place place page.0 page.1 in
      let first : page_ward page.0 ≡ one = one_there (map page_ward pages) place (page_ward page.0) one (slice_get-map page_ward pages place ∙ ap (option_map page_ward) page.1) is in
      let second : at_ward at.0 ≡ other = one_there (map at_ward order) place (at_ward at.0) other (slice_get-map at_ward order place ∙ ap (option_map at_ward) at.1) too in
      sym first ∙ (placed_at place at.0 page.0 at.1 page.1).1 ∙ second)

  -- as many pages of a ward stand before a place in the order as in the file
  own_before : (ward place : ℕ) → count_by (is_own ward) (take place pages) ≡ own_in (take place order) ward
  own_before ward place =
      let same : ℕ → Bool = λ n. nat_eq n ward in
      sym (counted_map page_ward same (take place pages)) ∙ ap (count_by same) (sym (take-map page_ward place pages) ∙ ap (take place) same_wards ∙ take-map at_ward place order) ∙ counted_map at_ward same (take place order)

  own_all : (ward : ℕ) → count_by (is_own ward) pages ≡ own_in order ward
  own_all ward =
      let same : ℕ → Bool = λ n. nat_eq n ward in
      sym (counted_map page_ward same pages) ∙ ap (count_by same) same_wards ∙ counted_map at_ward same order

  ward_is : (ward : ℕ) (own : List Page) → slice_get wards ward ≡ Some own → pages_of_ward ward_bits pages ward ≡ own
  ward_is ward own there =
      let long : get_or (map length wards) ward 0 ≡ length own = get_or_from_slice_get (map length wards) ward (length own) 0 (slice_get-map length wards ward ∙ ap (option_map length) there) in
      same_lists (filter (is_own ward) pages) own (length-filter (is_own ward) pages ∙ own_all ward ∙ ordered.counted ward ∙ long) (λ number page other is too.
      let stands = filtered_from (is_own ward) pages number page is in
      let at = at_place stands.place page stands.there in
      let both = placed_at stands.place at.0 page at.1 stands.there in
      let same : at_ward at.0 ≡ ward = sym both.1 ∙ eqb-true (page_ward page) ward stands.passes in
      let number_is : (at.0).number ≡ number = ordered.numbered stands.place at.0 at.1 ∙ ap (own_in (take stands.place order)) same ∙ sym (own_before ward stands.place) ∙ stands.counted in
      let own_is : get_or wards (at_ward at.0) [] ≡ own = ap (λ (ward : ℕ). get_or wards ward []) same ∙ get_or_from_slice_get wards ward own [] there in
      one_there own number page other (sym (λ i. slice_get (own_is i) (number_is i)) ∙ both.0) too)

  pub wards_same : wards_by ward_bits pages ≡ wards
  wards_same = same_lists (wards_by ward_bits pages) wards (length-map-range_with_len (pages_of_ward ward_bits pages) 0 (2 ^ ward_bits) ∙ sym count) (λ ward one other is too.
      let within : ward < 2 ^ ward_bits = omega (arith, slice_get_within wards ward other too, count) in
      let made : get_or (wards_by ward_bits pages) ward [] ≡ pages_of_ward ward_bits pages ward = get_or-map-range_with_len (pages_of_ward ward_bits pages) 0 (2 ^ ward_bits) ward ward [] within (omega arith) in
      sym (get_or_from_slice_get (wards_by ward_bits pages) ward one [] is) ∙ made ∙ ward_is ward other too)

  begin_wards : BeginsWithFirsts (length wards) order → BeginWards ward_bits (lows_of pages)
  begin_wards firsts place low less is =
      let page = within_there pages place (omega (arith, slice_get_within (lows_of pages) place low is, length-map pages low_bound)) in
      let low_is : low_bound page.0 ≡ low = one_there (lows_of pages) place (low_bound page.0) low (slice_get-map low_bound pages place ∙ ap (option_map low_bound) page.1) is in
      ap (ward_of ward_bits) (sym low_is) ∙ (placed_at place _ page.0 (firsts place (omega (arith, less, count))) page.1).1

  counted : (ward : ℕ) → get_or (map length wards) ward 0 ≡ pages_in ward_bits ward (lows_of pages)
  counted ward = sym (ordered.counted ward) ∙ sym (own_all ward) ∙ sym (counted_map low_bound (λ low. nat_eq (ward_of ward_bits low) ward) pages)

-- ---- the pages of an order

mapped : (wards : List (List Page)) (ward : ℕ) → get_or (map length wards) ward 0 ≡ length (get_or wards ward [])
mapped [] ward = refl
mapped (own ∷ wards) zero = refl
mapped (own ∷ wards) (suc ward) = mapped wards ward

Gives : {A B : Type 0} → (A → Option B) → List A → Type 0
Gives {A} {B} f xs = (i : ℕ) (x : A) → slice_get xs i ≡ Some x → (y : B) × (f x ≡ Some y)

given_each : {A B : Type 0} (f : A → Option B) (xs : List A) → Gives f xs → (i : ℕ) (x : A) → slice_get xs i ≡ Some x → slice_get (flat_map (λ x. option_to_list (f x)) xs) i ≡ f x
unfolding Gives
given_each f [] gives i x is = cc
given_each {A} {B} f (y ∷ xs) gives zero x is =
    let same : y ≡ x = cc in
    let value = gives 0 y refl in
    ap (λ (found : Option B). slice_get (option_to_list found ++ flat_map (λ x. option_to_list (f x)) xs) 0) value.1 ∙ sym value.1 ∙ ap f same
given_each {A} {B} f (y ∷ xs) gives (suc i) x is =
    let value = gives 0 y refl in
    ap (λ (found : Option B). slice_get (option_to_list found ++ flat_map (λ x. option_to_list (f x)) xs) (suc i)) value.1 ∙ given_each f xs (λ i. gives (suc i)) i x is

given_count : {A B : Type 0} (f : A → Option B) (xs : List A) → Gives f xs → length (flat_map (λ x. option_to_list (f x)) xs) ≡ length xs
unfolding Gives
given_count f [] gives = refl
given_count {A} {B} f (y ∷ xs) gives =
    let value = gives 0 y refl in
    ap (λ (found : Option B). length (option_to_list found ++ flat_map (λ x. option_to_list (f x)) xs)) value.1 ∙ ap (λ (n : ℕ). suc n) (given_count f xs (λ i. gives (suc i)))

pub pages_given : (wards : List (List Page)) (order : List PageAt) → IsOrderOf (map length wards) order → ArePagesOf wards order (pages_named wards order)
unfolding Gives
pages_given wards order ordered =
    let page_of : PageAt → Option Page = λ at. slice_get (get_or wards at.ward []) at.number in
    let gives : (place : ℕ) (at : PageAt) → slice_get order place ≡ Some at → (page : Page) × (page_of at ≡ Some page) = λ place at is.
    let more = counted_less (λ (page : PageAt). nat_eq page.ward at.ward) order place (length order) at (slice_get_within order place at is) is (eq-eqb at.ward at.ward refl) in
    let all : own_in (take (length order) order) at.ward ≡ own_in order at.ward = ap (λ (order : List PageAt). own_in order at.ward) (take_all (length order) order (omega arith)) in
    let number = ordered.numbered place at is in
    let long : get_or (map length wards) at.ward 0 ≡ length (get_or wards at.ward []) = mapped wards at.ward in
    within_there (get_or wards at.ward []) at.number (omega (arith, more, all, number, long, ordered.counted at.ward)) in
    record { count = given_count page_of order gives; each = given_each page_of order gives }

-- ---- the file

pub legal_file : CellsTellTables → (wards : List (List Page)) (tables : List TableMap) (order : List PageAt) (file : PlacedFile)
    → IsLegalFile (any_pseudokey file.header.settings.keyer) (parts_of file.header.settings.cap file.header.settings.ward_bits wards tables) → IsFileOfWards wards tables order file → IsLegalFileOf wards tables file
legal_file tell wards tables order file legal is =
    let pseudo = any_pseudokey file.header.settings.keyer in
    let cap = file.header.settings.cap in
    let bits = file.header.settings.ward_bits in
    let pages = file.pages in
    let told = is.cells_are in
    let same = wards_same pseudo cap bits wards tables order pages told.few is.count legal is.order_is is.pages_are in
    let fits : FitsCells bits file.header.page_counts (lows_of pages) file.cells = record {
      firsts = begin_wards pseudo cap bits wards tables order pages told.few is.count legal is.order_is is.pages_are is.firsts;
      counts_are = λ ward few. is.counts_are ward few ∙ counted pseudo cap bits wards tables order pages told.few is.count legal is.order_is is.pages_are ward;
      each = told.fit;
    } in
    let is_legal : IsLegalPlaced file tables = record {
      fits = fits;
      tables_are = told.tables_are;
      legal = subst (λ (wards : List (List Page)). IsLegalFile pseudo (parts_of cap bits wards tables)) (sym same) legal;
    } in
    record { legal = is_legal; wards_are = same; tables_are = λ others has. tell bits (lows_of pages) file.cells others tables has told.tables_are }
