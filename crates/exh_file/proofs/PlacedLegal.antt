-- The file of version 3 of sound wards is legal.
use Rattle.std.proofs.Common.{◌≡◌, ℕ, zero, suc, ◌^◌, ◌<◌, Bool, false, nat_eq, eq-eqb, cond, List, [], ◌∷◌, ◌++◌, length, map, set, get_or, replicate, slice_get, Some, inl, inr, refl, sym, ap, ◌∙◌, subst, arith}
use Rattle.std.specs.FinMap.{empty}
use Rattle.std.specs.List.{AllByRecursion, sum}
use Rattle.std.specs.Option.{option_map}
use Rattle.std.proofs.lemmas.Bool.{cases_eq, cases_lt}
use Rattle.std.proofs.lemmas.Bool.Decides.{eqb_tells}
use Rattle.std.proofs.lemmas.List.{get_or-set_other, get_or-set_same, get_or_past, length-map}
use Rattle.std.proofs.lemmas.List.Folds.{sum_by-replicate}
use Rattle.std.proofs.lemmas.List.Sums.{sum_by-append, sum_by-cons, sum_by-set}
use Rattle.std.proofs.lemmas.Option.{get_or_from_slice_get, slice_get-get_or, slice_get-map, slice_get_within}
use Rattle.exh_prefix.specs.Layout.{written_version}
use Rattle.exh_prefix.specs.PrefixListLemmas.{one_there}
use Rattle.exh_keyer.specs.Pseudokey.{any_pseudokey}
use Rattle.exh_keyer.specs.declared.any_keyer.AnyKeyer.{AnyKeyer}
use Rattle.exh_table.specs.Table.{TableMap}
use Rattle.exh_page.specs.Page.{IsWellFormed}
use Rattle.exh_page.specs.declared.page.Page.{Page}
use Rattle.exh_legal.specs.LegalLaws.{FittingTablesBeginWards}
use Rattle.exh_legal.specs.LegalParts.{parts_of}
use Rattle.exh_legal.specs.ReasonLaws.{IsLegalFile, LegalFilesPass}
use Rattle.exh_codec.specs.PageImage.{IsInRange, IsPage}
use Rattle.exh_format.specs.FileVersion.{written_format}
use Rattle.exh_format.specs.HeaderImage.{IsHeader}
use Rattle.exh_placing.specs.PlacedFile.{IsPlaced, placed_bytes}
use Rattle.exh_placing.specs.StampedHeader.{IsStampedHeader}
use Rattle.exh_placing.specs.declared.page_at.PageAt.{PageAt}
use Rattle.exh_placing.specs.Order.{BeginsWithFirsts, own_in}
use Rattle.exh_placing.specs.PlacingLaws.{OrdersGivePages}
use Rattle.exh_placing.specs.WardFile.{ArePagesOf, IsFileOfWards, LegalWardsGiveFiles}
use Rattle.exh_ward.specs.WardState.{WardState}
use Rattle.exh_file.specs.declared.placing.Placing.{Placing}
use Rattle.exh_file.specs.declared.placing.Stamps.{Stamps}
use Rattle.exh_file.specs.Opened.{AreWardsOf, OpenedState}
use Rattle.exh_file.specs.Placing.{IsPlacedSaving, IsPlacingOf, ordered_pages, placed_file, stamped_header, tables_of_all}
use Rattle.exh_file.specs.Saved.{AreSound, header_of, pages_of_all}
use Rattle.exh_file.proofs.Legal.{legal_parts}
use Rattle.exh_file.proofs.Places.{own_page, page_there, ward_within}

-- ---- the header

pub is_stamped : (opened : OpenedState) (stamps : Stamps) → IsHeader written_format (header_of opened) → stamps.own < 2 ^ 64 → stamps.before < 2 ^ 64 → IsStampedHeader (stamped_header opened stamps)
is_stamped opened stamps is own before = record {
  plain = record { some = is.some; few = is.few; wards = is.wards; entries = omega arith; counts = is.counts; pages = is.pages; others = is.others };
  stamp = own;
  before = before;
}

-- ---- counts

zero_at : (n i : ℕ) → get_or (replicate {A = ℕ} n 0) i 0 ≡ 0
zero_at zero i = refl
zero_at (suc n) zero = refl
zero_at (suc n) (suc i) = zero_at n i

padded_at : (counts : List ℕ) (n i : ℕ) → get_or (counts ++ replicate n 0) i 0 ≡ get_or counts i 0
padded_at [] n i = zero_at n i
padded_at (count ∷ counts) n zero = refl
padded_at (count ∷ counts) n (suc i) = padded_at counts n i

sum_padded : (counts : List ℕ) (n : ℕ) → sum (counts ++ replicate n 0) ≡ sum counts
sum_padded counts n = omega (arith, sum_by-append (λ (x : ℕ). x) counts (replicate n 0), sum_by-replicate (λ (x : ℕ). x) n 0)

none_counted : (counts : List ℕ) → ((ward : ℕ) → get_or counts ward 0 ≡ 0) → sum counts ≡ 0
none_counted [] none = refl
none_counted (count ∷ counts) none = omega (arith, sum_by-cons (λ (x : ℕ). x) count counts, none 0, none_counted counts (λ ward. none (suc ward)))

abbrev one_if : Bool → ℕ
one_if test = cond test 1 0

own_more : (at : PageAt) (order : List PageAt) → own_in (at ∷ order) at.ward ≡ suc (own_in order at.ward)
own_more at order =
    let is : one_if (nat_eq at.ward at.ward) ≡ 1 = ap one_if (eq-eqb at.ward at.ward refl) in
    omega (arith, sum_by-cons (λ (page : PageAt). one_if (nat_eq page.ward at.ward)) at order, is)

not_eqb : (one other : ℕ) → (one ≡ other → ⊥) → nat_eq one other ≡ false
not_eqb one other differ = elim (eqb_tells one other) [ inl same ↦ absurd (differ same.1) | inr else ↦ else.0 ]

own_else : (at : PageAt) (order : List PageAt) (ward : ℕ) → (ward ≡ at.ward → ⊥) → own_in (at ∷ order) ward ≡ own_in order ward
own_else at order ward differ =
    let is : one_if (nat_eq at.ward ward) ≡ 0 = ap one_if (not_eqb at.ward ward (λ same. differ (sym same))) in
    omega (arith, sum_by-cons (λ (page : PageAt). one_if (nat_eq page.ward ward)) at order, is)

pub all_counted : (order : List PageAt) (counts : List ℕ) → ((ward : ℕ) → own_in order ward ≡ get_or counts ward 0) → length order ≡ sum counts
all_counted [] counts are = sym (none_counted counts (λ ward. sym (are ward)))
all_counted (at ∷ order) counts are =
    let own = own_in order at.ward in
    let here : get_or counts at.ward 0 ≡ suc own = sym (are at.ward) ∙ own_more at order in
    let less : at.ward < length counts = elim (cases_lt at.ward (length counts)) [
      | inl less ↦ less
      | inr past ↦ absurd (omega (arith, here, get_or_past counts at.ward 0 past))
    ] in
    let rest = all_counted order (set counts at.ward own) (λ ward. elim (cases_eq ward at.ward) [
      | inl same ↦ subst (λ (w : ℕ). own_in order w ≡ get_or (set counts at.ward own) w 0) (sym same) (sym (get_or-set_same counts at.ward own 0 less))
      | inr else ↦ sym (own_else at order ward else) ∙ are ward ∙ sym (get_or-set_other counts at.ward ward own 0 else)
    ]) in
    omega (arith, rest, sum_by-set (λ (x : ℕ). x) counts at.ward own 0 less, here)

-- ---- pages

all_valid : (pseudo : List ℕ → ℕ) (pages : List Page) → AllByRecursion (IsInRange written_version) pages → ((place : ℕ) (page : Page) → slice_get pages place ≡ Some page → IsWellFormed pseudo page) → AllByRecursion (IsPage written_version pseudo) pages
all_valid pseudo [] ranges formed = tt
all_valid pseudo (page ∷ pages) ranges formed = (record { in_range = ranges.0; formed = formed 0 page refl }, all_valid pseudo pages ranges.1 (λ place. formed (suc place)))

order_there : (order : List PageAt) (place : ℕ) → place < length order → (at : PageAt) × (slice_get order place ≡ Some at)
order_there [] place less = absurd (omega (arith, less))
order_there (at ∷ order) zero less = (at, refl)
order_there (at ∷ order) (suc place) less = order_there order place (omega (arith, less))

-- ---- the wards

pub all_legal : (opened : OpenedState) → AreWardsOf opened → AreSound opened.wards → FittingTablesBeginWards → IsLegalFile (any_pseudokey opened.keyer) (parts_of opened.cap opened.ward_bits (pages_of_all opened.wards) (tables_of_all opened.wards))
all_legal opened are sound begin =
    let table_of : WardState AnyKeyer → TableMap = λ ward. ward.table in
    legal_parts opened are sound begin (tables_of_all opened.wards)
    (λ number ward there. get_or_from_slice_get (tables_of_all opened.wards) number ward.table empty (slice_get-map table_of opened.wards number ∙ ap (option_map table_of) there))
    (λ number past. get_or_past (tables_of_all opened.wards) number empty (omega (arith, past, length-map opened.wards table_of)))

-- ---- the file

module _ (opened : OpenedState) (are : AreWardsOf opened) (sound : AreSound opened.wards) (begin : FittingTablesBeginWards) (placing : Placing) (is : IsPlacingOf opened placing) (give : OrdersGivePages) where
  abbrev pages : List Page
  pages = ordered_pages opened.wards placing.order.items

  pub pages_are : ArePagesOf (pages_of_all opened.wards) placing.order.items pages
  pages_are = give (pages_of_all opened.wards) placing.order.items is.order_is

  pub cells_all : length placing.cells.items ≡ length placing.order.items
  cells_all = is.cells_are.all ∙ length-map pages _ ∙ pages_are.count

  abbrev wards_count : length (pages_of_all opened.wards) ≡ length opened.wards
  wards_count = length-map opened.wards (λ (w : WardState AnyKeyer). w.pages)

  abbrev legal_wards : IsLegalFile (any_pseudokey opened.keyer) (parts_of opened.cap opened.ward_bits (pages_of_all opened.wards) (tables_of_all opened.wards))
  legal_wards = all_legal opened are sound begin

  is_file : IsFileOfWards (pages_of_all opened.wards) (tables_of_all opened.wards) placing.order.items (placed_file opened placing)
  is_file = record {
    count = wards_count ∙ are.count;
    order_is = is.order_is;
    firsts = subst (λ (n : ℕ). BeginsWithFirsts n placing.order.items) (sym wards_count) is.firsts;
    pages_are = pages_are;
    counts_are = λ ward within. padded_at (map length (pages_of_all opened.wards)) _ ward;
    cells_are = is.cells_are;
  }

  module _ (pass : LegalFilesPass) (header : IsStampedHeader (stamped_header opened placing.stamps)) (ranges : AllByRecursion (IsInRange written_version) pages) where
    formed : (place : ℕ) (page : Page) → slice_get pages place ≡ Some page → IsWellFormed (any_pseudokey opened.keyer) page
    formed place page there =
        let at = order_there placing.order.items place (omega (arith, slice_get_within pages place page there, pages_are.count)) in
        let found = page_there opened.wards placing.order.items pages pages_are place at.0 at.1 in
        let own = own_page opened.wards placing.order.items pages pages_are place at.0 at.1 in
        let less = ward_within opened.wards placing.order.items pages pages_are place at.0 at.1 in
        let bits = are.bits in
        let passed = (pass (any_pseudokey opened.keyer) (parts_of opened.cap opened.ward_bits (pages_of_all opened.wards) (tables_of_all opened.wards)) (record { cap = are.most; bits = omega (arith, bits) })).1 legal_wards in
        let own_list = slice_get-get_or (pages_of_all opened.wards) at.0.ward [] (omega (arith, less, wards_count)) in
        let same : found.0 ≡ page = one_there pages place found.0 page found.1 there in
        subst (IsWellFormed (any_pseudokey opened.keyer)) same ((passed.formed at.0.ward (get_or (pages_of_all opened.wards) at.0.ward []) own_list).formed at.0.number found.0 own)

    is_placed : IsPlaced (placed_file opened placing)
    is_placed = record {
      header = header;
      count = pages_are.count ∙ all_counted placing.order.items (map length (pages_of_all opened.wards)) is.order_is.counted ∙ sym (sum_padded (map length (pages_of_all opened.wards)) _);
      all = is.cells_are.all ∙ length-map pages _;
      pages = all_valid (any_pseudokey opened.keyer) pages ranges formed;
      cells = is.cells_are.valid;
    }

    pub is_saving : LegalWardsGiveFiles → IsPlacedSaving opened placing (placed_bytes (placed_file opened placing))
    is_saving files =
        let legal = files (pages_of_all opened.wards) (tables_of_all opened.wards) placing.order.items (placed_file opened placing) legal_wards is_file in
        record { legal = record { is = record { valid = is_placed; whole = refl }; legal = legal.legal }; wards_are = legal.wards_are }
