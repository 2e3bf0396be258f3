-- The tables of a file's entries, ward by ward, as more entries are taken.
use Rattle.std.proofs.Common.{◌≡◌, ℕ, ◌+◌, ◌<◌, ◌≤◌, Bool, cond, List, [], ◌∷◌, ◌++◌, length, map, take, drop, set, get_or, eqb, inl, inr, sym, ap, ◌∙◌, subst, arith}
use Rattle.std.specs.FinMap.{empty}
use Rattle.std.specs.List.{AllByRecursion, range_with_len}
use Rattle.std.specs.declared.cmp.Ordering.TheVariants.{Less}
use Rattle.std.proofs.lemmas.Bool.Decides.{eqb_tells}
use Rattle.std.proofs.lemmas.List.{drop_more, ext_get_or, get_or-set_other, get_or-set_same, get_or_read, take-append-drop, take_more}
use Rattle.std.proofs.lemmas.List.FromFn.{get_or-map-range_with_len, length-map-range_with_len, take-map-range_with_len}
use Rattle.exh_prefix.specs.Prefix.{prefix_cmp}
use Rattle.exh_legal.specs.Table.{TableMap, raised}
use Rattle.exh_format.specs.declared.file_entry.FileEntry.{FileEntry}
use Rattle.exh_format.specs.RisingLemmas.{all_before}
use Rattle.exh_format.specs.TableImage.{AreRising, prefixes_of}
use Rattle.exh_format.specs.LegalFile.{table_naming, tables_of}
use Rattle.exh_format.specs.NamingLemmas.{named_more}
use Rattle.exh_format.specs.declared.tables.TheConstants.{NAMED_WARDS}

-- ---- one step of taking entries

module _ (entries : List FileEntry) (at : ℕ) (item : FileEntry) (less : at < length entries) (is : item ≡ get_or entries at item) (rising : AreRising (prefixes_of entries)) where
  whole : entries ≡ take at entries ++ item ∷ drop (at + 1) entries
  whole = sym (take-append-drop at entries) ∙ ap (λ (rest : List FileEntry). take at entries ++ rest) (drop_more entries at item less ∙ ap (λ (one : FileEntry). one ∷ drop (at + 1) entries) (sym is))

  before : AllByRecursion (λ (one : FileEntry). prefix_cmp one.prefix item.prefix ≡ Less) (take at entries)
  before = all_before (take at entries) item (drop (at + 1) entries) (subst (λ (all : List FileEntry). AreRising (prefixes_of all)) whole rising)

  front_more : take (at + 1) entries ≡ take at entries ++ item ∷ []
  front_more = take_more entries at item less ∙ ap (λ (one : FileEntry). take at entries ++ one ∷ []) (sym is)

  pub taken_more : (tables : List TableMap) (old new : TableMap) → length tables ≡ NAMED_WARDS → item.ward < NAMED_WARDS → old ≡ get_or tables item.ward old → new ≡ raised old item.prefix item.entry
      → ((ward : ℕ) → get_or tables ward empty ≡ table_naming (take at entries) ward) → (ward : ℕ) → get_or (set tables item.ward new) ward empty ≡ table_naming (take (at + 1) entries) ward
  taken_more tables old new count few was made each ward =
      let front = take at entries in
      let within : item.ward < length tables = omega (arith, few, count) in
      let there : old ≡ table_naming front item.ward = get_or_read tables item.ward old within was empty ∙ each item.ward in
      let wanted : table_naming (take (at + 1) entries) ward ≡ cond (eqb item.ward ward) (raised (table_naming front ward) item.prefix item.entry) (table_naming front ward)
      = ap (λ (all : List FileEntry). table_naming all ward) front_more ∙ named_more front item before ward in
      elim (eqb_tells item.ward ward) [
        | inl same ↦
            subst (λ (w : ℕ). get_or (set tables item.ward new) w empty ≡ raised (table_naming front w) item.prefix item.entry) same.1
            (get_or-set_same tables item.ward new empty within ∙ made ∙ ap (λ (table : TableMap). raised table item.prefix item.entry) there)
            ∙ sym (wanted ∙ ap (λ (b : Bool). cond b (raised (table_naming front ward) item.prefix item.entry) (table_naming front ward)) same.0)
        | inr other ↦
            get_or-set_other tables item.ward ward new empty (λ e. other.1 (sym e)) ∙ each ward
            ∙ sym (wanted ∙ ap (λ (b : Bool). cond b (raised (table_naming front ward) item.prefix item.entry) (table_naming front ward)) other.0)
      ]

-- ---- all tables

pub tables_from : (entries : List FileEntry) (tables : List TableMap) → length tables ≡ NAMED_WARDS → ((ward : ℕ) → ward < NAMED_WARDS → get_or tables ward empty ≡ table_naming entries ward) → tables ≡ tables_of entries
unfolding tables_of
tables_from entries tables count each =
    let same = count ∙ sym (length-map-range_with_len (table_naming entries) 0 NAMED_WARDS) in
    ext_get_or empty tables _ same (λ ward less. let few : ward < NAMED_WARDS = omega (arith, less, count) in each ward few ∙ sym (get_or-map-range_with_len (table_naming entries) 0 NAMED_WARDS ward ward empty few (omega arith)))

pub count_of_tables : (entries : List FileEntry) → length (tables_of entries) ≡ NAMED_WARDS
unfolding tables_of
count_of_tables entries = length-map-range_with_len (table_naming entries) 0 NAMED_WARDS

pub front_of_tables : (entries : List FileEntry) (count : ℕ) → count ≤ NAMED_WARDS → take count (tables_of entries) ≡ map (table_naming entries) (range_with_len 0 count)
unfolding tables_of
front_of_tables entries count few = take-map-range_with_len (table_naming entries) 0 NAMED_WARDS count few
