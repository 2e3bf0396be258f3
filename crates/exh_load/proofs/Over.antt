-- The directories of an opened file's wards.
use Rattle.std.proofs.Common.{◌≡◌, List, length, sym, ap, ap₂, ◌∙◌, subst}
use Rattle.std.specs.FinMap as fin
use Rattle.exh_keyer.specs.declared.any_keyer.AnyKeyer.{AnyKeyer}
use Rattle.exh_prefix.specs.Prefix.{prefix_cmp}
use Rattle.exh_table.specs.SetLemmas.{joined_none}
use Rattle.exh_table.specs.Table.{TableMap}
use Rattle.exh_table.specs.TableLemmas.{get-table_join, joined, same_table}
use Rattle.exh_table.specs.TableOrder.{table_join}
use Rattle.exh_array.specs.Pointers.{DirectoryState}
use Rattle.exh_page.specs.declared.file_settings.FileSettings.{FileSettings}
use Rattle.exh_ward.specs.WardState.{WardState}
use Rattle.exh_file.specs.Opened.{AreWardsOf, OpenedState, in_file, settings_in}
use Rattle.exh_load.specs.Loader.{AreEach, IsDirectoryAt, IsLoading}

-- ---- a table joined to none

pub join_of_none : (none table : TableMap) → none ≡ fin.empty → table_join none table ≡ table
join_of_none none table is = subst (λ first. table_join first table ≡ table) (sym is) (same_table _ _ (λ prefix. get-table_join fin.empty table prefix ∙ ap (λ one. joined one (fin.get table prefix)) (fin.get-empty prefix_cmp prefix) ∙ joined_none (fin.get table prefix)))

-- ---- the wards of a file, as they were opened

module _ (opened : OpenedState) (settings : FileSettings AnyKeyer) (wards : List (WardState AnyKeyer)) (settings_is : settings ≡ settings_in opened) (wards_is : wards ≡ opened.wards) where
  pub over_file : in_file settings wards ≡ opened
  over_file = ap₂ in_file settings_is wards_is

  pub over_wards : AreWardsOf opened → AreWardsOf (in_file settings wards)
  over_wards are = subst AreWardsOf (sym over_file) are

  pub over_loading : AreWardsOf opened → (directories : List DirectoryState) → AreEach (IsDirectoryAt settings.ward_bits wards) (length wards) directories
      → IsLoading (record { cap = settings.cap; ward_bits = settings.ward_bits; keyer = settings.keyer; wards = wards; directories = directories })
  over_loading are directories each = record {
    count = each.count_is;
    told = λ number ward directory there directory_there.
        let is = each.each number directory directory_there ward there in
        record { table = is.0; bits = is.1 ∙ sym ((over_wards are).each number ward there).bits };
  }
