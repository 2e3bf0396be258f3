-- What the six reasons come to.
use Rattle.std.specs.Prelude.{◌≡◌, ◌↔◌, ℕ, ◌<◌, ◌^◌, List, [], length}
use Rattle.std.specs.FinMap.{entries}
use Rattle.std.specs.List.{sum_by}
use Rattle.exh_prefix.specs.declared.prefix.TheConstants.{LIMIT}
use Rattle.exh_page.specs.declared.page.Page.{Page}
use Rattle.exh_page.specs.Page.{IsWellFormed}
use Rattle.exh_legal.specs.LegalLaws.{IsWard}
use Rattle.exh_legal.specs.Pages.{IsAt}
use Rattle.exh_legal.specs.declared.reason.Reason.{Reason}
use Rattle.exh_legal.specs.LegalParts.{FileParts, HasPartRanges, IsBounded, OfEachWard, HasNoStrays}
use Rattle.exh_legal.specs.Reasons.{ReasonPasses}

-- ---- pages as readers give them

pub record AreFormed (pseudo : List ℕ → ℕ) (pages : List Page) : Type 0 where
  pub formed : (number : ℕ) (page : Page) → IsAt pages number page → IsWellFormed pseudo page
  pub bounded : (number : ℕ) (page : Page) → IsAt pages number page → IsBounded page

-- ---- a legal file

-- each ward is legal, with its table as its start and no change since, and no entry names a ward that isn't there
pub record IsLegalFile (pseudo : List ℕ → ℕ) (parts : FileParts) : Type 0 where
  pub wards : OfEachWard parts (λ ward table pages. IsWard parts.cap pseudo ward table [] table pages)
  pub strays : HasNoStrays parts

-- a file of pages as readers give them that passes all six tests
pub record IsPassed (pseudo : List ℕ → ℕ) (parts : FileParts) : Type 0 where
  pub formed : OfEachWard parts (λ ward table pages. AreFormed pseudo pages)
  pub passed : (reason : Reason) → ReasonPasses parts reason

abbrev pub LegalFilesPass : Type 0
LegalFilesPass = (pseudo : List ℕ → ℕ) (parts : FileParts) → HasPartRanges parts → IsPassed pseudo parts ↔ IsLegalFile pseudo parts

-- the entries of a legal file are fewer than there are prefixes of LIMIT bits
abbrev pub LegalTablesHaveRoom : Type 0
LegalTablesHaveRoom = (pseudo : List ℕ → ℕ) (parts : FileParts) → HasPartRanges parts → length parts.wards ≡ 2 ^ parts.ward_bits → IsLegalFile pseudo parts → sum_by (λ table. length (entries table)) parts.tables < 2 ^ LIMIT
