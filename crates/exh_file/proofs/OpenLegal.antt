-- The wards that a legal file's pages and tables give.
use Rattle.std.proofs.Common.{◌≡◌, ℕ, zero, suc, ◌^◌, ◌<◌, List, [], ◌∷◌, ◌++◌, length, map, set, get_or, slice_get, Some, inl, inr, refl, sym, ap, ◌∙◌, subst, arith}
use Rattle.std.specs.Prelude.{◌⊎◌}
use Rattle.std.specs.FinMap.{empty}
use Rattle.std.specs.Option.{option_map}
use Rattle.std.proofs.lemmas.List.{length-map}
use Rattle.std.proofs.lemmas.List.FromFn.{get_or-map-range_with_len, length-map-range_with_len}
use Rattle.std.proofs.lemmas.Option.{get_or_from_slice_get, same_Some, slice_get-map, slice_get_cases, slice_get_within}
use Rattle.exh_prefix.specs.Leading.{ward_prefix}
use Rattle.exh_keyer.specs.Pseudokey.{any_pseudokey}
use Rattle.exh_keyer.specs.declared.any_keyer.AnyKeyer.{AnyKeyer}
use Rattle.exh_page.specs.declared.page.Page.{Page}
use Rattle.exh_page.specs.Page.{IsWellFormed}
use Rattle.exh_table.specs.Table.{TableMap}
use Rattle.exh_legal.specs.LegalLaws.{IsWard}
use Rattle.exh_legal.specs.MapLemmas.{all_pages}
use Rattle.exh_format.specs.declared.header.Header.{Header}
use Rattle.exh_format.specs.PageFile.{IsKnownFile, PageFile}
use Rattle.exh_legal.specs.ReasonLaws.{IsLegalFile, LegalFilesPass}
use Rattle.exh_ward.specs.WardState.{WardState}
use Rattle.exh_format.specs.LegalFile.{parts_in, table_naming, ward_tables}
use Rattle.exh_format.specs.LegalFileLemmas.{count_of_wards, few_bits, ranges_of, table_naming_at}
use Rattle.exh_file.specs.Opened.{AreWardsOf, OpenedState, in_file}
use Rattle.exh_file.specs.Opening.{AreLegalWards, AreOpened, IsLegalWard, IsOpenedFile, IsOpenedWard}

-- ---- lists

pub untouched : {X : Type 0} (items : List X) (at later : ℕ) (item : X) → at < later → slice_get (set items at item) later ≡ slice_get items later
untouched [] at later item less = refl
untouched (first ∷ items) zero zero item less = absurd (omega (arith, less))
untouched (first ∷ items) zero (suc later) item less = refl
untouched (first ∷ items) (suc at) zero item less = absurd (omega (arith, less))
untouched (first ∷ items) (suc at) (suc later) item less = untouched items at later item (omega (arith, less))

pushed : {X : Type 0} (items : List X) (item other : X) (at : ℕ) → slice_get (items ++ item ∷ []) at ≡ Some other → (slice_get items at ≡ Some other) ⊎ ((at ≡ length items) × (other ≡ item))
pushed [] item other zero is = let same : other ≡ item = cc in inr (refl, same)
pushed [] item other (suc at) is = cc
pushed (first ∷ items) item other zero is = inl is
pushed (first ∷ items) item other (suc at) is = elim (pushed items item other at is) [
  | inl there ↦ inl there
  | inr last ↦ inr (ap suc last.0, last.1)
]

-- ---- one ward more

pub more_opened : {W : Type 0} (pages_of : W → List Page) (header : Header) (pages : List W) (tables : List TableMap) (wards : List (WardState AnyKeyer)) (ward : WardState AnyKeyer) (number : ℕ) (own : W) (table : TableMap)
    → length wards ≡ number → slice_get pages number ≡ Some own → slice_get tables number ≡ Some table → IsOpenedWard header number (pages_of own) table ward → AreOpened pages_of header pages tables wards
    → AreOpened pages_of header pages tables (wards ++ ward ∷ [])
more_opened {W = W} pages_of header pages tables wards ward number own table count at_own at_table made opened at other_own other_table other po pt pw = elim (pushed wards ward other at pw) [
  | inl there ↦ opened at other_own other_table other po pt there
  | inr last ↦
      let here : at ≡ number = last.0 ∙ count in
      let own_is : own ≡ other_own = same_Some own other_own (sym at_own ∙ ap (slice_get pages) (sym here) ∙ po) in
      let table_is : table ≡ other_table = same_Some table other_table (sym at_table ∙ ap (slice_get tables) (sym here) ∙ pt) in
      subst (λ (n : ℕ). IsOpenedWard header n (pages_of other_own) other_table other) (sym here)
      (subst (λ (w : WardState AnyKeyer). IsOpenedWard header number (pages_of other_own) other_table w) (sym last.1)
      (subst (λ (t : TableMap). IsOpenedWard header number (pages_of other_own) t ward) table_is
      (subst (λ (o : W). IsOpenedWard header number (pages_of o) table ward) own_is made)))
]

-- ---- a legal file's wards

pub legal_ward : LegalFilesPass → (file : PageFile) → IsKnownFile file → IsLegalFile (any_pseudokey file.header.settings.keyer) (parts_in file) → (number : ℕ) (pages : List Page) → slice_get file.wards number ≡ Some pages
    → IsLegalWard file.header number pages (table_naming file.entries number)
legal_ward law file valid legal number pages there =
    let pseudo = any_pseudokey file.header.settings.keyer in
    let less : number < 256 = omega (arith, slice_get_within file.wards number pages there, count_of_wards file valid, valid.1.header.wards) in
    let formed = (((law pseudo (parts_in file) (ranges_of file valid)).1 legal).formed number pages there).formed in
    record {
      legal = subst (λ (table : TableMap). IsWard file.header.settings.cap pseudo (ward_prefix file.header.settings.ward_bits number) table [] table pages) (table_naming_at file.entries number less) (legal.wards number pages there);
      formed = all_pages (IsWellFormed pseudo) pages formed;
    }

module _ {W : Type 0} (pages_of : W → List Page) (file : PageFile) (pages : List W) (tables : List TableMap) (valid : IsKnownFile file) (pages_are : file.wards ≡ map pages_of pages) (tables_are : tables ≡ ward_tables file) where
  count_pages : length pages ≡ 2 ^ file.header.settings.ward_bits
  count_pages = sym (length-map pages pages_of) ∙ sym (ap length pages_are) ∙ count_of_wards file valid

  pub count_tables : length tables ≡ 2 ^ file.header.settings.ward_bits
  count_tables = ap length tables_are ∙ length-map-range_with_len (table_naming file.entries) 0 (length file.wards) ∙ count_of_wards file valid

  pages_at : (number : ℕ) (own : W) → slice_get pages number ≡ Some own → slice_get file.wards number ≡ Some (pages_of own)
  pages_at number own there = ap (λ (wards : List (List Page)). slice_get wards number) pages_are ∙ slice_get-map pages_of pages number ∙ ap (option_map pages_of) there

  table_is : (number : ℕ) (table : TableMap) → slice_get tables number ≡ Some table → table_naming file.entries number ≡ table
  table_is number table there =
      let less : number < length file.wards = omega (arith, slice_get_within tables number table there, count_tables, count_of_wards file valid) in
      sym (get_or-map-range_with_len (table_naming file.entries) 0 (length file.wards) number number empty less (omega arith)) ∙ sym (ap (λ (all : List TableMap). get_or all number empty) tables_are) ∙ get_or_from_slice_get tables number table empty there

  pub legal_wards : LegalFilesPass → IsLegalFile (any_pseudokey file.header.settings.keyer) (parts_in file) → AreLegalWards pages_of file.header pages tables
  legal_wards law legal number own table po pt = subst (λ (t : TableMap). IsLegalWard file.header number (pages_of own) t) (table_is number table pt) (legal_ward law file valid legal number (pages_of own) (pages_at number own po))

  module _ (wards : List (WardState AnyKeyer)) (count : length wards ≡ 2 ^ file.header.settings.ward_bits) (opened : AreOpened pages_of file.header pages tables wards) where
    is_opened : (number : ℕ) (ward : WardState AnyKeyer) → slice_get wards number ≡ Some ward → IsOpenedWard file.header number (get_or file.wards number []) (table_naming file.entries number) ward
    is_opened number ward there =
        let less = slice_get_within wards number ward there in
        elim (slice_get_cases pages number).1 [
          | inl own ↦ elim (slice_get_cases tables number).1 [
            | inl table ↦
                subst (λ (list : List Page). IsOpenedWard file.header number list (table_naming file.entries number) ward) (sym (get_or_from_slice_get file.wards number (pages_of own.0) [] (pages_at number own.0 own.2)))
                (subst (λ (t : TableMap). IsOpenedWard file.header number (pages_of own.0) t ward) (sym (table_is number table.0 table.2)) (opened number own.0 table.0 ward own.2 table.2 there))
            | inr past ↦ absurd (omega (arith, less, past.0, count, count_tables))
          ]
          | inr past ↦ absurd (omega (arith, less, past.0, count, count_pages))
        ]

    pub wards_of_file : AreWardsOf (in_file file.header.settings wards)
    wards_of_file = record {
      some = valid.1.header.some;
      most = valid.1.header.few;
      bits = (let few = few_bits file valid in omega arith);
      count = count;
      each = λ number ward there.
          let is = (is_opened number ward there).is in
          record { cap = ap (λ (w : WardState AnyKeyer). w.cap) is; bits = ap (λ (w : WardState AnyKeyer). w.ward_bits) is; number_is = ap (λ (w : WardState AnyKeyer). w.number) is; keyer = ap (λ (w : WardState AnyKeyer). w.keyer) is };
    }

    pub opened_file : (opened : OpenedState) → opened ≡ in_file file.header.settings wards → IsOpenedFile file opened
    opened_file opened is = subst (IsOpenedFile file) (sym is) (record { cap = refl; bits = refl; keyer = refl; count = count ∙ sym (count_of_wards file valid); each = is_opened })
