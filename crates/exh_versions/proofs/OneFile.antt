-- Bytes are those of one legal file, in whichever version.
use Rattle.std.proofs.Common.{◌≡◌, ℕ, List, inl, inr, sym, ap, ◌∙◌, subst}
use Rattle.exh_prefix.specs.declared.version.TheConstants.{WRITTEN}
use Rattle.exh_format.specs.FileLaws.{OneFile}
use Rattle.exh_format.specs.FileVersion.{version_of}
use Rattle.exh_format.specs.FileVersionLemmas.{known_file_fits}
use Rattle.exh_format.specs.PageFile.{PageFile}
use Rattle.exh_versions.specs.CellLaws.{CellsTellTables}
use Rattle.exh_versions.specs.LegalPlaced.{HasTables}
use Rattle.exh_versions.specs.PlacedFile.{PlacedFile}
use Rattle.exh_versions.specs.PlacedLaws.{OnePlacedFile}
use Rattle.exh_versions.specs.LegalBytes.{IsLegalBytes, IsLegalPlacedOf}
use Rattle.exh_versions.specs.PlainFile.{plain_file}
use Rattle.exh_versions.specs.VersionLemmas.{says_placed, says_plain}
use Rattle.exh_versions.specs.VersionLaws.{IsKnownLegal, PlacedFilesSayFiles}

-- ---- known files

pub known_legal : PlacedFilesSayFiles → (file : PageFile) (bytes : List ℕ) → IsLegalBytes file bytes → IsKnownLegal file
known_legal law file bytes legal = elim legal [
  | inl page ↦ record { is_known = (version_of bytes, page.is.valid); legal = page.legal }
  | inr placed ↦
      let plain = law placed.placed placed.tables bytes placed.legal in
      subst IsKnownLegal (sym placed.says) (record { is_known = (WRITTEN, plain.valid); legal = plain.legal })
]

-- ---- one file

module _ (one_file : OneFile) (one_placed : OnePlacedFile) (tell : CellsTellTables) (bytes : List ℕ) where
  same_placed : (one other : PageFile) → IsLegalPlacedOf one bytes → IsLegalPlacedOf other bytes → one ≡ other
  same_placed one other first second =
      let same : first.placed ≡ second.placed = one_placed bytes first.placed second.placed first.legal.is second.legal.is in
      let there : HasTables second.placed first.tables = subst (λ (placed : PlacedFile). HasTables placed first.tables) same first.legal.legal.tables_are in
      let tables : first.tables ≡ second.tables = tell _ _ _ first.tables second.tables there second.legal.legal.tables_are in
      first.says ∙ ap (λ (placed : PlacedFile). plain_file placed first.tables) same ∙ ap (plain_file second.placed) tables ∙ sym second.says

  pub same_file : (one other : PageFile) → IsLegalBytes one bytes → IsLegalBytes other bytes → one ≡ other
  same_file one other first second = elim first [
    | inl page ↦ elim second [
      | inl twin ↦ one_file _ (known_file_fits (version_of bytes)) bytes one other page.is twin.is
      | inr placed ↦ absurd (says_plain (version_of bytes) one bytes page.is (says_placed placed.placed bytes placed.legal.is))
    ]
    | inr placed ↦ elim second [
      | inl twin ↦ absurd (says_plain (version_of bytes) other bytes twin.is (says_placed placed.placed bytes placed.legal.is))
      | inr again ↦ same_placed one other placed again
    ]
  ]
