-- The header of sound wards, and that they are a legal file.
use Rattle.std.proofs.Common.{◌≡◌, ℕ, suc, ◌-◌, ◌^◌, ◌<◌, ◌≤◌, Bool, true, false, cond, T, List, [], ◌∷◌, length, map, get_or, replicate, slice_get, None, Some, refl, sym, ap, ◌∙◌, subst, length-append, arith}
use Rattle.std.specs.FinMap.{empty, entries, entries_sorted, get, get-entries}
use Rattle.std.specs.FinMap.Entries.{find, is_sorted}
use Rattle.std.specs.List.{AllByRecursion, sum_by}
use Rattle.std.specs.Option.{option_map}
use Rattle.std.specs.Ordering.{eq_by_cmp, is_eq}
use Rattle.std.proofs.Math.Nat.{pow-le-pow_right}
use Rattle.std.proofs.lemmas.Cmp.{tied_itself}
use Rattle.std.proofs.lemmas.List.{drop_at, get_or_past, length-map, length-replicate, take_at}
use Rattle.std.proofs.lemmas.List.Sums.{sum_by-cons}
use Rattle.std.proofs.lemmas.Option.{get_or_from_slice_get, slice_get-map}
use Rattle.exh_prefix.specs.BitLemmas.{length-bits_of}
use Rattle.exh_prefix.specs.Leading.{ward_prefix}
use Rattle.exh_prefix.specs.PrefixListLemmas.{AllByRecursion-append, first_part, second_part}
use Rattle.exh_prefix.specs.Prefix.{prefix_cmp}
use Rattle.exh_prefix.specs.PrefixLemmas.{prefix_cmp-total}
use Rattle.exh_prefix.specs.declared.prefix.TheConstants.{LIMIT}
use Rattle.exh_keyer.specs.Pseudokey.{any_pseudokey}
use Rattle.exh_keyer.specs.declared.any_keyer.AnyKeyer.{AnyKeyer}
use Rattle.exh_notice.specs.declared.entry.Entry.{Entry}
use Rattle.exh_notice.specs.declared.entry.Kind.{Kind}
use Rattle.exh_notice.specs.declared.entry.Kind.TheVariants.{Split, Merge}
use Rattle.exh_notice.specs.NoticeByteLemmas.{zeros_are_zero}
use Rattle.exh_table.specs.SetLemmas.{none_below}
use Rattle.exh_table.specs.Table.{TableMap}
use Rattle.exh_table.specs.TableLemmas.{same_from_tie}
use Rattle.exh_table.specs.TableWalk.{right_of, right_of_kind, split_at}
use Rattle.exh_page.specs.declared.page.Page.{Page}
use Rattle.exh_legal.specs.Fit.{FitsPages}
use Rattle.exh_legal.specs.LegalLaws.{FittingTablesBeginWards, IsWard, PagesAreFew}
use Rattle.exh_legal.specs.Pages.{AreLinked, IsAt, bare}
use Rattle.exh_format.specs.FileVersion.{written_format}
use Rattle.exh_format.specs.HeaderImage.{IsHeader, IsPageCount}
use Rattle.exh_format.specs.declared.file_entry.FileEntry.{FileEntry}
use Rattle.exh_legal.specs.LegalParts.{parts_of}
use Rattle.exh_legal.specs.ReasonLaws.{IsLegalFile, LegalTablesHaveRoom}
use Rattle.exh_ward.specs.WardState.{WardState, own_prefix}
use Rattle.exh_file.specs.Opened.{AreWardsOf, OpenedState}
use Rattle.exh_file.specs.Saved.{AreShort, AreSound, entries_of_all, entries_of, file_entry, header_of, pages_of_all}
use Rattle.exh_file.proofs.Lists.{there_in}

-- ---- what holds of each ward's part holds of all

module _ (P : ℕ → Type 0) where
  all_counts : (wards : List (WardState AnyKeyer)) → ((number : ℕ) (ward : WardState AnyKeyer) → slice_get wards number ≡ Some ward → P (length ward.pages)) → AllByRecursion P (map length (pages_of_all wards))
  all_counts [] each = tt
  all_counts (ward ∷ wards) each = (each 0 ward refl, all_counts wards (λ number other is. each (suc number) other is))

abbrev IsShortAt : List Bool × Entry → Type 0
IsShortAt told = length told.0 < LIMIT

pub all_told : (P : List Bool → Type 0) (ward : ℕ) (told : List (List Bool × Entry)) → AllByRecursion (λ (one : List Bool × Entry). P one.0) told → AllByRecursion (λ (item : FileEntry). P item.prefix) (map (file_entry ward) told)
all_told P ward [] all = tt
all_told P ward (one ∷ told) all = (all.0, all_told P ward told all.1)

all_short : (wards : List (WardState AnyKeyer)) → ((number : ℕ) (ward : WardState AnyKeyer) → slice_get wards number ≡ Some ward → AllByRecursion IsShortAt (entries ward.table)) → AreShort (entries_of_all wards)
all_short [] each = tt
all_short (ward ∷ wards) each = AllByRecursion-append _ (entries_of ward) (entries_of_all wards) (all_told (λ prefix. length prefix < LIMIT) ward.number (entries ward.table) (each 0 ward refl)) (all_short wards (λ number other is. each (suc number) other is))

-- ---- the entries of one table

module _ (P : List Bool → Type 0) where
  pub each : (es : List (List Bool × Entry)) → T (is_sorted prefix_cmp es) → ((prefix : List Bool) (entry : Entry) → find prefix_cmp prefix es ≡ Some entry → P prefix) → AllByRecursion (λ (told : List Bool × Entry). P told.0) es
  each [] sorted holds = tt
  each (item ∷ es) sorted holds = (
    holds item.0 item.1 (ap (λ b. cond b (Some item.1) (find prefix_cmp item.0 es)) (ap is_eq (tied_itself prefix_cmp-total item.0))),
    each es (second_part _ _ sorted) (λ prefix entry is. elim (eq_by_cmp prefix_cmp prefix item.0) as (λ here. eq_by_cmp prefix_cmp prefix item.0 ≡ here → P prefix) [
      | true ↦ λ here.
          let none : find prefix_cmp prefix es ≡ None = ap (λ p. find prefix_cmp p es) (same_from_tie prefix item.0 here) ∙ none_below item.0 es (first_part _ _ sorted) in
          let clash : None ≡ Some entry = sym none ∙ is in
          cc
      | false ↦ λ here. holds prefix entry (ap (λ b. cond b (Some item.1) (find prefix_cmp prefix es)) here ∙ is)
    ] refl),
  )

module _ {ward : List Bool} {table : TableMap} (pages : List Page) (linked : AreLinked ward (bare pages)) (fits : FitsPages ward table (bare pages)) where
  pub short_at : (prefix : List Bool) (entry : Entry) (kind : Kind) → entry.kind ≡ kind → get table prefix ≡ Some entry → length prefix < LIMIT
  short_at prefix entry (Split right) is found =
      let split : split_at table prefix ≡ Some right = ap right_of found ∙ ap right_of_kind is in
      let inner = ((fits.splits prefix).0 (right, split)).1 in
      omega (arith, inner.3.1, (linked.within inner.1 _ inner.2.2).1)
  short_at prefix entry Merge is found = ((fits.merges prefix).0 (entry.number, found ∙ ap (λ kind. Some (record { number = entry.number; kind = kind })) is)).0

  short_entries : AllByRecursion IsShortAt (entries table)
  short_entries = each (λ prefix. length prefix < LIMIT) (entries table) (entries_sorted table) (λ prefix entry is. short_at prefix entry entry.kind refl (get-entries table prefix ∙ is))

-- ---- the pages of one ward

some_pages : (pages : List Page) (page : Page) → IsAt (bare pages) 0 page → 1 ≤ length pages
some_pages [] page is = cc
some_pages (first ∷ pages) page is = omega arith

-- ---- tables, one a ward

abbrev tables_in : List (WardState AnyKeyer) → List TableMap
tables_in wards = map (λ ward. ward.table) wards

abbrev entry_len : TableMap → ℕ
entry_len table = length (entries table)

entries_count : (wards : List (WardState AnyKeyer)) → length (entries_of_all wards) ≡ sum_by entry_len (tables_in wards)
entries_count [] = refl
entries_count (ward ∷ wards) =
    omega (arith, length-append (entries_of ward) (entries_of_all wards), length-map (entries ward.table) (file_entry ward.number), entries_count wards, sum_by-cons entry_len ward.table (tables_in wards))

-- ---- all wards

module _ (opened : OpenedState) (are : AreWardsOf opened) (sound : AreSound opened.wards) (begin : FittingTablesBeginWards) where
  abbrev pseudo : List ℕ → ℕ
  pseudo = any_pseudokey opened.keyer

  legal_ward : (number : ℕ) (ward : WardState AnyKeyer) → slice_get opened.wards number ≡ Some ward → IsWard opened.cap pseudo (ward_prefix opened.ward_bits number) ward.table [] ward.table ward.pages
  legal_ward number ward is =
      let own = are.each number ward is in
      let whole = (sound number ward is).legal in
      let begun = begin ward.cap (any_pseudokey ward.keyer) (own_prefix ward) ward.table ward.pages whole.legal.legal whole.fits in
      subst (λ (cap : ℕ). IsWard cap pseudo (ward_prefix opened.ward_bits number) ward.table [] ward.table ward.pages) own.cap
      (subst (λ (keyer : AnyKeyer). IsWard ward.cap (any_pseudokey keyer) (ward_prefix opened.ward_bits number) ward.table [] ward.table ward.pages) own.keyer
      (subst (λ (bits : ℕ). IsWard ward.cap (any_pseudokey ward.keyer) (ward_prefix bits number) ward.table [] ward.table ward.pages) own.bits
      (subst (λ (n : ℕ). IsWard ward.cap (any_pseudokey ward.keyer) (ward_prefix ward.ward_bits n) ward.table [] ward.table ward.pages) own.number_is begun)))

  pub legal_parts : (tables : List TableMap) → ((number : ℕ) (ward : WardState AnyKeyer) → slice_get opened.wards number ≡ Some ward → get_or tables number empty ≡ ward.table)
      → ((number : ℕ) → length opened.wards ≤ number → get_or tables number empty ≡ empty) → IsLegalFile pseudo (parts_of opened.cap opened.ward_bits (pages_of_all opened.wards) tables)
  legal_parts tables own none = record {
    wards = λ number pages there.
        let ward = there_in (λ (w : WardState AnyKeyer). w.pages) opened.wards number pages there in
        subst (λ (ps : List Page). IsWard opened.cap pseudo (ward_prefix opened.ward_bits number) (get_or tables number empty) [] (get_or tables number empty) ps) ward.2
        (subst (λ (t : TableMap). IsWard opened.cap pseudo (ward_prefix opened.ward_bits number) t [] t ward.0.pages) (sym (own number ward.0 ward.1)) (legal_ward number ward.0 ward.1));
    strays = λ number past. none number (omega (arith, past, length-map opened.wards (λ (w : WardState AnyKeyer). w.pages)));
  }

  few_entries : LegalTablesHaveRoom → length (entries_of_all opened.wards) < 2 ^ LIMIT
  few_entries room =
      let tables = tables_in opened.wards in
      let table_of : WardState AnyKeyer → TableMap = λ ward. ward.table in
      let own : (number : ℕ) (ward : WardState AnyKeyer) → slice_get opened.wards number ≡ Some ward → get_or tables number empty ≡ ward.table =
      λ number ward is. get_or_from_slice_get tables number ward.table empty (slice_get-map table_of opened.wards number ∙ ap (option_map table_of) is) in
      let none : (number : ℕ) → length opened.wards ≤ number → get_or tables number empty ≡ empty = λ number past. get_or_past tables number empty (omega (arith, past, length-map opened.wards table_of)) in
      let bits = are.bits in
      let few = room pseudo (parts_of opened.cap opened.ward_bits (pages_of_all opened.wards) tables) (record { cap = are.most; bits = omega (arith, bits) }) (length-map opened.wards (λ (w : WardState AnyKeyer). w.pages) ∙ are.count) (legal_parts tables own none) in
      omega (arith, few, entries_count opened.wards)

  pub are_short : AreShort (entries_of_all opened.wards)
  are_short = all_short opened.wards (λ number ward is. let legal = (sound number ward is).legal in short_entries ward.pages legal.legal.legal.linked legal.fits)

  pub page_count : PagesAreFew → (number : ℕ) (ward : WardState AnyKeyer) → slice_get opened.wards number ≡ Some ward → IsPageCount LIMIT opened.ward_bits (length ward.pages)
  page_count few number ward is =
      let linked = (legal_ward number ward is).legal.legal.linked in
      let own = ward_prefix opened.ward_bits number in
      let long : length own ≡ opened.ward_bits = length-bits_of opened.ward_bits number in
      let bits = are.bits in
      let most = few own ward.pages (omega (arith, long, bits)) linked in (
        some_pages ward.pages linked.first.0 linked.first.1,
        subst (λ (n : ℕ). length ward.pages ≤ 2 ^ (LIMIT - n)) long most,
      )

  pub is_header : PagesAreFew → LegalTablesHaveRoom → IsHeader written_format (header_of opened)
  is_header few room =
      let lens = map length (pages_of_all opened.wards) in
      let rest = replicate (16 - length lens) 0 in
      let many : length lens ≡ 2 ^ opened.ward_bits = length-map (pages_of_all opened.wards) (λ (pages : List Page). length pages) ∙ length-map opened.wards (λ (w : WardState AnyKeyer). w.pages) ∙ are.count in
      let within : 2 ^ opened.ward_bits ≤ 16 = omega (arith, pow-le-pow_right {n = 2} (omega arith) are.bits) in
      record {
        some = are.some;
        few = are.most;
        wards = within;
        entries = few_entries room;
        counts = omega (arith, length-append lens rest, length-replicate {A = ℕ} (16 - length lens) 0, many, within);
        pages = subst (AllByRecursion (IsPageCount LIMIT opened.ward_bits)) (sym (take_at lens rest (2 ^ opened.ward_bits) many)) (all_counts (IsPageCount LIMIT opened.ward_bits) opened.wards (page_count few));
        others = subst (AllByRecursion (λ (count : ℕ). count ≡ 0)) (sym (drop_at lens rest (2 ^ opened.ward_bits) many)) (zeros_are_zero (16 - length lens));
      }
