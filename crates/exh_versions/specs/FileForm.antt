-- How a page file that was read has its pages in places.
use Rattle.std.specs.Prelude.{◌≡◌, ℕ, List}
use Rattle.exh_format.specs.FileVersion.{format_of}
use Rattle.exh_format.specs.LegalFile.{IsLegalPageFile}
use Rattle.exh_format.specs.PageFile.{PageFile}
use Rattle.exh_versions.specs.PlacedFile.{lows_of}
use Rattle.exh_versions.specs.declared.file_form.FileForm.{FileForm}
use Rattle.exh_versions.specs.declared.file_form.FileForm.TheVariants.{Placed, Plain}
use Rattle.exh_versions.specs.declared.file_form.PlacedForm.{PlacedForm}
use Rattle.exh_versions.specs.LegalBytes.{IsLegalPlacedOf}

-- the places and the stamp are those of the file of version 3 that the bytes are
pub record HasPlaces (file : PageFile) (bytes : List ℕ) (form : PlacedForm) : Type 0 where
  pub own : IsLegalPlacedOf file bytes
  pub lows : form.lows.items ≡ lows_of own.placed.pages
  pub stamp : form.stamp ≡ own.placed.header.stamp

-- the form is that of the bytes, which are the file's
abbrev pub IsFormOf : PageFile → List ℕ → FileForm → Type 0
IsFormOf file bytes Plain = IsLegalPageFile (format_of bytes) file bytes
IsFormOf file bytes (Placed form) = HasPlaces file bytes form
