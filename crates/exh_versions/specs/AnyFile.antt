-- What reading a legal page file of any version gives.
use Rattle.std.specs.Prelude.{◌≡◌, ℕ, List, Option}
use Rattle.exh_page.specs.declared.page.Page.{Page}
use Rattle.exh_format.specs.FileParts.{file_read}
use Rattle.exh_format.specs.LegalFile.{ward_tables}
use Rattle.exh_format.specs.PageFile.{PageFile}
use Rattle.exh_format.specs.Reading.{AreBytes, IsAll}
use Rattle.exh_versions.specs.declared.any_file.AnyFile.{AnyFile}
use Rattle.exh_versions.specs.FileForm.{IsFormOf}
use Rattle.exh_versions.specs.LegalBytes.{IsLegalBytes}

-- the file that was read, of wards that say which pages they have
abbrev pub any_file_read : {W : Type 0} → (W → List Page) → AnyFile W → PageFile
any_file_read own found = file_read own found.file.parts

-- it is a legal file that the bytes say, which are all that was known, with its tables and in the form of the bytes
pub record IsReadLegal {W : Type 0} (own : W → List Page) (known : Option (List ℕ)) (found : AnyFile W) : Type 0 where
  pub bytes : List ℕ
  pub all : IsAll known bytes
  pub are_bytes : AreBytes bytes
  pub legal : IsLegalBytes (any_file_read own found) bytes
  pub tables : found.file.tables.items ≡ ward_tables (any_file_read own found)
  pub form : IsFormOf (any_file_read own found) bytes found.form
