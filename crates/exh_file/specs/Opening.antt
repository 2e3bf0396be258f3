-- The wards that opening a page file gives.
use Rattle.std.specs.Prelude.{⊤, ◌≡◌, ℕ, List, [], length, get_or, slice_get, Option, Some}
use Rattle.std.specs.List.{AllByRecursion}
use Rattle.exh_prefix.specs.Leading.{ward_prefix}
use Rattle.exh_keyer.specs.Pseudokey.{any_pseudokey}
use Rattle.exh_keyer.specs.declared.any_keyer.AnyKeyer.{AnyKeyer}
use Rattle.exh_page.specs.declared.page.Page.{Page}
use Rattle.exh_page.specs.Page.{IsWellFormed}
use Rattle.exh_table.specs.Table.{TableMap}
use Rattle.exh_legal.specs.LegalLaws.{IsWard}
use Rattle.exh_legal.specs.Pages.{map_of}
use Rattle.exh_format.specs.declared.header.Header.{Header}
use Rattle.exh_format.specs.PageFile.{PageFile}
use Rattle.exh_format.specs.Reading.{AreBytes, IsAll}
use Rattle.exh_ward.specs.WardState.{WardState, IsSoundWard}
use Rattle.exh_format.specs.LegalFile.{table_naming}
use Rattle.exh_versions.specs.FileForm.{IsFormOf}
use Rattle.exh_versions.specs.FirstFault.{IsFirstFaultOf}
use Rattle.exh_versions.specs.LegalBytes.{IsLegalBytes}
use Rattle.exh_versions.specs.declared.file_form.FileForm.{FileForm}
use Rattle.exh_file.specs.declared.open_fault.OpenFault.{OpenFault}
use Rattle.exh_file.specs.declared.open_fault.OpenFault.TheVariants.{File, Page as OutOfReach}
use Rattle.exh_file.specs.Opened.{OpenedState}

-- ---- one ward

-- the ward of a number, of its pages and of the table of the entries that name it
abbrev pub ward_opened : Header → ℕ → List Page → TableMap → ℕ → WardState AnyKeyer
ward_opened header number pages table failures = record {
  pages = pages;
  base = map_of pages;
  journal = [];
  start = table;
  notices = [];
  table = table;
  failures = failures;
  cap = header.settings.cap;
  ward_bits = header.settings.ward_bits;
  number = number;
  keyer = header.settings.keyer;
}

pub record IsOpenedWard (header : Header) (number : ℕ) (pages : List Page) (table : TableMap) (ward : WardState AnyKeyer) : Type 0 where
  pub is : ward ≡ ward_opened header number pages table ward.failures
  pub sound : IsSoundWard any_pseudokey ward

-- pages that are a legal ward for a table as its start, with no change since
pub record IsLegalWard (header : Header) (number : ℕ) (pages : List Page) (table : TableMap) : Type 0 where
  pub legal : IsWard header.settings.cap (any_pseudokey header.settings.keyer) (ward_prefix header.settings.ward_bits number) table [] table pages
  pub formed : AllByRecursion (IsWellFormed (any_pseudokey header.settings.keyer)) pages

-- of wards that say which pages they have
abbrev pub AreLegalWards : {W : Type 0} → (W → List Page) → Header → List W → List TableMap → Type 0
AreLegalWards {W} pages_of header pages tables = (number : ℕ) (own : W) (table : TableMap) → slice_get pages number ≡ Some own → slice_get tables number ≡ Some table → IsLegalWard header number (pages_of own) table

-- the wards so far
abbrev pub AreOpened : {W : Type 0} → (W → List Page) → Header → List W → List TableMap → List (WardState AnyKeyer) → Type 0
AreOpened {W} pages_of header pages tables wards = (number : ℕ) (own : W) (table : TableMap) (ward : WardState AnyKeyer) → slice_get pages number ≡ Some own → slice_get tables number ≡ Some table
    → slice_get wards number ≡ Some ward → IsOpenedWard header number (pages_of own) table ward

-- ---- all wards of a file

pub record IsOpenedFile (file : PageFile) (opened : OpenedState) : Type 0 where
  pub cap : opened.cap ≡ file.header.settings.cap
  pub bits : opened.ward_bits ≡ file.header.settings.ward_bits
  pub keyer : opened.keyer ≡ file.header.settings.keyer
  pub count : length opened.wards ≡ length file.wards
  pub each : (number : ℕ) (ward : WardState AnyKeyer) → slice_get opened.wards number ≡ Some ward → IsOpenedWard file.header number (get_or file.wards number []) (table_naming file.entries number) ward

-- those of a legal file that the bytes say, which are all that was known, and the form of the bytes
pub record IsOpenedAs (known : Option (List ℕ)) (opened : OpenedState) (form : FileForm) : Type 0 where
  pub file : PageFile
  pub bytes : List ℕ
  pub all : IsAll known bytes
  pub are_bytes : AreBytes bytes
  pub legal : IsLegalBytes file bytes
  pub form_is : IsFormOf file bytes form
  pub wards : IsOpenedFile file opened

-- ---- the first fault

-- the fault, if it is one of the bytes, is their first, where they are known
abbrev pub IsOpenFaultOf : Option (List ℕ) → OpenFault → Type 0
IsOpenFaultOf known (File fault) = IsFirstFaultOf known fault
IsOpenFaultOf known OutOfReach = ⊤
