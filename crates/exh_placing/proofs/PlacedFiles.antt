-- Files of wards are page files: how many pages they have in all, and their images.
use Rattle.std.proofs.Common.{◌≡◌, ℕ, zero, suc, ◌+◌, ◌<◌, ◌≤◌, Bool, false, cond, nat_eq, nat_lt, eq-eqb, List, [], ◌∷◌, length, map, take, get_or, Some, refl, sym, ap, ◌∙◌, inl, inr, arith}
use Rattle.std.specs.List.{count_by, slice_get, sum}
use Rattle.std.proofs.lemmas.Bool.{cases_eq, cases_lt, le-ltb, lt-ltb}
use Rattle.std.proofs.lemmas.Bool.Decides.{eqb_tells}
use Rattle.std.proofs.lemmas.List.{get_or_past, length-map, take_all, take_more}
use Rattle.std.proofs.lemmas.List.Sums.{sum_by-cons, sum_by_push}
use Rattle.std.proofs.lemmas.Option.{slice_get-get_or, slice_get_within}
use Rattle.exh_prefix.specs.PrefixListLemmas.{within_there}
use Rattle.exh_page.specs.declared.page.Page.{Page}
use Rattle.exh_page.specs.Page.{low_bound}
use Rattle.exh_prefix.specs.Version.{second_version}
use Rattle.exh_keyer.specs.Pseudokey.{any_pseudokey}
use Rattle.exh_table.specs.Table.{TableMap}
use Rattle.exh_codec.specs.PageImage.{IsPage}
use Rattle.exh_cells.specs.PlacedFile.{IsPlaced, PlacedFile}
use Rattle.exh_cells.specs.StampedHeader.{IsStampedHeader}
use Rattle.exh_placing.specs.declared.page_at.PageAt.{PageAt}
use Rattle.exh_placing.specs.Order.{IsOrderOf, own_in}
use Rattle.exh_placing.specs.WardFile.{HaveImages, IsFileOfWards}
use Rattle.exh_placing.proofs.Filtered.{counted_less}
use Rattle.exh_placing.proofs.Made.{all_from}

-- ---- how many pages there are

abbrev one_if : Bool → ℕ
one_if test = cond test 1 0

not_eqb : (one other : ℕ) → (one ≡ other → ⊥) → nat_eq one other ≡ false
not_eqb one other differ = elim (eqb_tells one other) [ inl same ↦ absurd (differ same.1) | inr else ↦ else.0 ]

-- how many pages of the first wards, so many, stand in an order
first_wards : ℕ → List PageAt → ℕ
first_wards wards order = count_by (λ at. nat_lt at.ward wards) order

bit_more : (ward count : ℕ) → one_if (nat_lt ward (suc count)) ≡ one_if (nat_lt ward count) + one_if (nat_eq ward count)
bit_more ward count = elim (cases_lt ward count) [
  | inl less ↦
      let first : one_if (nat_lt ward (suc count)) ≡ 1 = ap one_if (lt-ltb ward (suc count) (omega (arith, less))) in
      let second : one_if (nat_lt ward count) ≡ 1 = ap one_if (lt-ltb ward count less) in
      let third : one_if (nat_eq ward count) ≡ 0 = ap one_if (not_eqb ward count (λ same. omega (arith, same, less))) in
      omega (arith, first, second, third)
  | inr more ↦ elim (cases_eq ward count) [
    | inl same ↦
        let first : one_if (nat_lt ward (suc count)) ≡ 1 = ap one_if (lt-ltb ward (suc count) (omega (arith, same))) in
        let second : one_if (nat_lt ward count) ≡ 0 = ap one_if (le-ltb ward count more) in
        let third : one_if (nat_eq ward count) ≡ 1 = ap one_if (eq-eqb ward count same) in
        omega (arith, first, second, third)
    | inr other ↦
        let first : one_if (nat_lt ward (suc count)) ≡ 0 = ap one_if (le-ltb ward (suc count) (omega (arith, more, other))) in
        let second : one_if (nat_lt ward count) ≡ 0 = ap one_if (le-ltb ward count more) in
        let third : one_if (nat_eq ward count) ≡ 0 = ap one_if (not_eqb ward count other) in
        omega (arith, first, second, third)
  ]
]

first_more : (count : ℕ) (order : List PageAt) → first_wards (suc count) order ≡ first_wards count order + own_in order count
unfolding first_wards
first_more count [] = refl
first_more count (at ∷ order) =
    omega (
      arith,
      sum_by-cons (λ (at : PageAt). one_if (nat_lt at.ward (suc count))) at order,
      sum_by-cons (λ (at : PageAt). one_if (nat_lt at.ward count)) at order,
      sum_by-cons (λ (at : PageAt). one_if (nat_eq at.ward count)) at order,
      bit_more at.ward count,
      first_more count order,
    )

first_none : (order : List PageAt) → first_wards 0 order ≡ 0
unfolding first_wards
first_none [] = refl
first_none (at ∷ order) =
    let here : one_if (nat_lt at.ward 0) ≡ 0 = ap one_if (le-ltb at.ward 0 (omega arith)) in
    omega (arith, sum_by-cons (λ (at : PageAt). one_if (nat_lt at.ward 0)) at order, here, first_none order)

first_all : (count : ℕ) (order : List PageAt) → ((place : ℕ) (at : PageAt) → slice_get order place ≡ Some at → at.ward < count) → first_wards count order ≡ length order
unfolding first_wards
first_all count [] each = refl
first_all count (at ∷ order) each =
    let here : one_if (nat_lt at.ward count) ≡ 1 = ap one_if (lt-ltb at.ward count (each 0 at refl)) in
    omega (arith, sum_by-cons (λ (at : PageAt). one_if (nat_lt at.ward count)) at order, here, first_all count order (λ place. each (suc place)))

-- the counts of the first wards, so many
first_counts : (counts : List ℕ) (order : List PageAt) (count : ℕ) → count ≤ length counts → ((ward : ℕ) → ward < length counts → get_or counts ward 0 ≡ own_in order ward) → sum (take count counts) ≡ first_wards count order
first_counts counts order zero within each = sym (first_none order)
first_counts counts order (suc count) within each =
    let less : count < length counts = omega (arith, within) in
    let next : suc count ≡ count + 1 = omega arith in
    let more : sum (take (suc count) counts) ≡ sum (take count counts) + get_or counts count 0 =
    ap (λ (n : ℕ). sum (take n counts)) next ∙ ap sum (take_more counts count 0 less) ∙ sum_by_push (λ (n : ℕ). n) (take count counts) (get_or counts count 0) in
    omega (arith, more, first_counts counts order count (omega (arith, within)) each, first_more count order, each count less)

-- ---- the file

ward_within : (wards : List (List Page)) (order : List PageAt) → IsOrderOf (map length wards) order → (place : ℕ) (at : PageAt) → slice_get order place ≡ Some at → at.ward < length wards
ward_within wards order ordered place at is = elim (cases_lt at.ward (length wards)) [
  | inl less ↦ less
  | inr past ↦
      let none : get_or (map length wards) at.ward 0 ≡ 0 = get_or_past (map length wards) at.ward 0 (omega (arith, length-map wards length, past)) in
      let some = counted_less (λ (page : PageAt). nat_eq page.ward at.ward) order place (length order) at (slice_get_within order place at is) is (eq-eqb at.ward at.ward refl) in
      let all : own_in (take (length order) order) at.ward ≡ own_in order at.ward = ap (λ (order : List PageAt). own_in order at.ward) (take_all (length order) order (omega arith)) in
      absurd (omega (arith, none, some, all, ordered.counted at.ward))
]

pub placed_file : (wards : List (List Page)) (tables : List TableMap) (order : List PageAt) (file : PlacedFile) → IsStampedHeader file.header → HaveImages file.header.settings.keyer wards → IsFileOfWards wards tables order file → IsPlaced file
placed_file wards tables order file header images is =
    let counts = file.header.page_counts in
    let pages = file.pages in
    let many : length counts ≡ 16 = header.plain.counts in
    let each : (ward : ℕ) → ward < length counts → get_or counts ward 0 ≡ own_in order ward =
    λ ward less. is.counts_are ward (omega (arith, less, many)) ∙ sym (is.order_is.counted ward) in
    let few : (place : ℕ) (at : PageAt) → slice_get order place ≡ Some at → at.ward < length counts =
    λ place at there. let less = ward_within wards order is.order_is place at there in omega (arith, less, is.count, header.plain.wards, many) in
    record {
      header = header;
      count = is.pages_are.count ∙ sym (first_all (length counts) order few) ∙ sym (first_counts counts order (length counts) (omega arith) each) ∙ ap sum (take_all (length counts) counts (omega arith));
      all = is.cells_are.all ∙ length-map pages low_bound;
      pages = all_from (IsPage second_version (any_pseudokey file.header.settings.keyer)) pages (λ place page page_is.
          let at = within_there order place (omega (arith, is.pages_are.count, slice_get_within pages place page page_is)) in
          let there = sym (is.pages_are.each place at.0 at.1) ∙ page_is in
          let own = slice_get-get_or wards (at.0).ward [] (ward_within wards order is.order_is place at.0 at.1) in
          images (at.0).ward (at.0).number (get_or wards (at.0).ward []) page own there);
      cells = is.cells_are.valid;
    }
