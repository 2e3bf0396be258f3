-- A legal file of which one ward's pages, its table and the cells are others.
use Rattle.std.proofs.Common.{◌≡◌, ◌≢◌, ℕ, ◌<◌, ◌≤◌, ◌^◌, List, [], length, take, get_or, inl, inr, sym, ap, ◌∙◌, subst, arith}
use Rattle.std.specs.Prelude.{slice_set}
use Rattle.std.specs.FinMap as fin
use Rattle.std.proofs.lemmas.Bool.{cases_eq}
use Rattle.std.proofs.lemmas.List.{get_or_past, get_or-set_other, get_or-set_same, length-set}
use Rattle.std.proofs.lemmas.Option.{slice_get_within}
use Rattle.exh_keyer.specs.Pseudokey.{any_pseudokey}
use Rattle.exh_prefix.specs.Leading.{ward_of, ward_prefix}
use Rattle.exh_prefix.specs.PrefixListLemmas.{one_there}
use Rattle.exh_table.specs.Table.{TableMap}
use Rattle.exh_page.specs.declared.page.Page.{Page}
use Rattle.exh_page.specs.KeyMap.{KeyMap}
use Rattle.exh_page.specs.KeyMapLemmas.{same_maps}
use Rattle.exh_legal.specs.LegalLaws.{IsWard}
use Rattle.exh_legal.specs.LegalParts.{HasNoStrays}
use Rattle.exh_legal.specs.Pages.{map_of}
use Rattle.exh_legal.specs.ReasonLaws.{IsLegalFile}
use Rattle.exh_cells.specs.declared.cell.Cell.{Cell}
use Rattle.exh_cells.specs.Fit.{FitsCells}
use Rattle.exh_cells.specs.LegalPlaced.{IsLegalPlaced, pages_of_ward, placed_parts, wards_of}
use Rattle.exh_cells.specs.PlacedFile.{PlacedFile, lows_of}
use Rattle.exh_cells.specs.Told.{AreTablesOf}
use Rattle.exh_change.specs.PlacedSteps.{IsStep}
use Rattle.exh_edits.specs.PlacedLaws.{map_in}
use Rattle.exh_change.proofs.LegalWards.{count_of_wards, get_in_file, ward_there}

-- the file with other counts, pages and cells
abbrev pub with_parts : PlacedFile → List ℕ → List Page → List Cell → PlacedFile
with_parts file counts pages cells = record { header = record file.header { page_counts = counts }; pages = pages; cells = cells }

-- one ward has other pages, of this table, and the cells tell of it
pub record IsChange (file : PlacedFile) (tables : List TableMap) (counts : List ℕ) (pages : List Page) (cells : List Cell) (ward : ℕ) (table : TableMap) : Type 0 where
  pub there : ward < 2 ^ file.header.settings.ward_bits
  pub others : (other : ℕ) → other ≢ ward → pages_of_ward file.header.settings.ward_bits pages other ≡ pages_of_ward file.header.settings.ward_bits file.pages other
  pub own : IsWard file.header.settings.cap (any_pseudokey file.header.settings.keyer) (ward_prefix file.header.settings.ward_bits ward) table [] table (pages_of_ward file.header.settings.ward_bits pages ward)
  pub fits : FitsCells file.header.settings.ward_bits counts (lows_of pages) cells
  pub told : AreTablesOf file.header.settings.ward_bits (lows_of pages) cells (slice_set tables ward table)
  pub places : take (length file.pages) (lows_of pages) ≡ lows_of file.pages

module _ (file : PlacedFile) (tables : List TableMap) (few : file.header.settings.ward_bits ≤ 4) (count : length tables ≡ 2 ^ file.header.settings.ward_bits) (legal : IsLegalFile (any_pseudokey file.header.settings.keyer) (placed_parts file tables))
    (counts : List ℕ) (pages : List Page) (cells : List Cell) (ward : ℕ) (table : TableMap) (change : IsChange file tables counts pages cells ward table) where
  abbrev bits : ℕ
  bits = file.header.settings.ward_bits

  abbrev pseudo : List ℕ → ℕ
  pseudo = any_pseudokey file.header.settings.keyer

  abbrev cap : ℕ
  cap = file.header.settings.cap

  abbrev new : PlacedFile
  new = with_parts file counts pages cells

  abbrev tables_set : List TableMap
  tables_set = slice_set tables ward table

  ward_legal : (number : ℕ) → number < 2 ^ bits → IsWard cap pseudo (ward_prefix bits number) (get_or tables_set number fin.empty) [] (get_or tables_set number fin.empty) (pages_of_ward bits pages number)
  ward_legal number less = elim (cases_eq number ward) [
    | inl same ↦
        let table_is : get_or tables_set ward fin.empty ≡ table = get_or-set_same tables ward table fin.empty (omega (arith, change.there, count)) in
        subst (λ (n : ℕ). IsWard cap pseudo (ward_prefix bits n) (get_or tables_set n fin.empty) [] (get_or tables_set n fin.empty) (pages_of_ward bits pages n)) (sym same)
        (subst (λ (one : TableMap). IsWard cap pseudo (ward_prefix bits ward) one [] one (pages_of_ward bits pages ward)) (sym table_is) change.own)
    | inr differ ↦
        let table_is : get_or tables_set number fin.empty ≡ get_or tables number fin.empty = get_or-set_other tables ward number table fin.empty differ in
        subst (λ (one : TableMap). IsWard cap pseudo (ward_prefix bits number) one [] one (pages_of_ward bits pages number)) (sym table_is)
        (subst (λ (own : List Page). IsWard cap pseudo (ward_prefix bits number) (get_or tables number fin.empty) [] (get_or tables number fin.empty) own) (sym (change.others number differ))
        (legal.wards number (pages_of_ward bits file.pages number) (ward_there file number less)))
  ]

  strays : HasNoStrays (placed_parts new tables_set)
  strays number past = get_or_past tables_set number fin.empty (omega (arith, past, count_of_wards new, length-set tables ward table, count))

  pub new_legal : IsLegalFile pseudo (placed_parts new tables_set)
  new_legal = record {
    wards = λ number own there.
        let less : number < 2 ^ bits = omega (arith, slice_get_within (wards_of new) number own there, count_of_wards new) in
        subst (λ (own : List Page). IsWard cap pseudo (ward_prefix bits number) (get_or tables_set number fin.empty) [] (get_or tables_set number fin.empty) own)
        (one_there (wards_of new) number (pages_of_ward bits pages number) own (ward_there new number less) there) (ward_legal number less);
    strays = strays;
  }

  pub is_legal : IsLegalPlaced new tables_set
  is_legal = record { fits = change.fits; tables_are = change.told; legal = new_legal }

  -- with the map that each ward has its part of
  pub step_to : (map : KeyMap) → ((key : List ℕ) → fin.get (map_of (pages_of_ward bits pages (ward_of bits (pseudo key)))) key ≡ fin.get map key) → IsStep file map new
  step_to map parts = record {
    tables = tables_set;
    legal = is_legal;
    map_is = same_maps (map_in new) map (λ key. get_in_file new tables_set few new_legal key ∙ parts key);
    places = change.places;
  }

  part_kept : map_of (pages_of_ward bits pages ward) ≡ map_of (pages_of_ward bits file.pages ward) → (number : ℕ) → map_of (pages_of_ward bits pages number) ≡ map_of (pages_of_ward bits file.pages number)
  part_kept same number = elim (cases_eq number ward) [
    | inl is ↦ ap (λ (n : ℕ). map_of (pages_of_ward bits pages n)) is ∙ same ∙ ap (λ (n : ℕ). map_of (pages_of_ward bits file.pages n)) (sym is)
    | inr differ ↦ ap map_of (change.others number differ)
  ]

  -- with the map of before, where the ward has that of before
  pub step_kept : map_of (pages_of_ward bits pages ward) ≡ map_of (pages_of_ward bits file.pages ward) → IsStep file (map_in file) new
  step_kept same = step_to (map_in file) (λ key.
      ap (λ (m : KeyMap). fin.get m key) (part_kept same (ward_of bits (pseudo key))) ∙ sym (get_in_file file tables few legal key))
