-- Wards that were written, and wards that are opened from what was written.
use Rattle.std.specs.Prelude.{◌≡◌, ℕ, List, [], ◌++◌, length, take, drop, slice_get, Some}
use Rattle.byteorder.specs.Endian.{big_bytes}
use Rattle.exh_prefix.specs.declared.version.Version.{Version}
use Rattle.exh_prefix.specs.declared.version.Version.TheVariants.{First, Second}
use Rattle.exh_prefix.specs.declared.version.TheConstants.{WRITTEN}
use Rattle.exh_keyer.specs.declared.any_keyer.AnyKeyer.{AnyKeyer}
use Rattle.exh_legal.specs.Pages.{map_of}
use Rattle.exh_codec.specs.declared.block.TheConstants.{BLOCK_LEN, CONTENT_LEN}
use Rattle.exh_codec.specs.Block.{sealed}
use Rattle.exh_format.specs.FileVersion.{number_of_version, version_of, written_format}
use Rattle.exh_format.specs.PageFile.{PageFile, file_bytes}
use Rattle.exh_format.specs.Reading.{AreBytes}
use Rattle.exh_format.specs.LegalFile.{IsLegalPageFile}
use Rattle.exh_versions.specs.LegalBytes.{IsLegalBytes, SaysPlaced}
use Rattle.exh_ward.specs.WardState.{WardState}
use Rattle.exh_file.specs.Opened.{OpenedState}
use Rattle.exh_file.specs.Opening.{IsOpenedFile}
use Rattle.exh_file.specs.Saved.{written_file}

-- the bytes say a legal page file, in any version, and the wards are what opening it gives
pub record OpensAs (bytes : List ℕ) (opened : OpenedState) : Type 0 where
  pub file : PageFile
  pub legal : IsLegalBytes file bytes
  pub wards : IsOpenedFile file opened

-- the ward with its pages and its table now, and nothing of what came before
abbrev pub begun_anew : WardState AnyKeyer → ℕ → WardState AnyKeyer
begun_anew ward failures = record ward { base = map_of ward.pages; journal = []; start = ward.table; notices = []; failures = failures }

-- the same settings, and each ward begun anew
pub record IsReopened (old new : OpenedState) : Type 0 where
  pub cap : new.cap ≡ old.cap
  pub bits : new.ward_bits ≡ old.ward_bits
  pub keyer : new.keyer ≡ old.keyer
  pub count : length new.wards ≡ length old.wards
  pub each : (number : ℕ) (ward other : WardState AnyKeyer) → slice_get old.wards number ≡ Some ward → slice_get new.wards number ≡ Some other → other ≡ begun_anew ward other.failures

-- the bytes are the legal page file of these wards, and whatever opening them gives is these wards begun anew
pub record IsKept (opened : OpenedState) (bytes : List ℕ) : Type 0 where
  pub legal : IsLegalPageFile written_format (written_file opened) bytes
  pub same : (other : OpenedState) → OpensAs bytes other → IsReopened opened other

-- bytes of a file with another version's number, and with the header's digest made anew
abbrev pub renumbered : ℕ → List ℕ → List ℕ
renumbered number bytes = sealed (take 8 bytes ++ big_bytes 2 number ++ drop 10 (take CONTENT_LEN bytes)) ++ drop BLOCK_LEN bytes

-- bytes of the version that is written as they stand, those of the first with its number
abbrev pub in_written : Version → List ℕ → List ℕ
in_written First bytes = renumbered (number_of_version WRITTEN) bytes
in_written Second bytes = bytes

-- Where these wards are what opening some bytes gives, their page file is the file that the bytes say, in whichever version.
-- Where that is 1 or 2 its bytes are these again, in the version that is written; those of version 3 stand otherwise.
pub record IsWrittenAgain (opened : OpenedState) : Type 0 where
  pub same : (bytes : List ℕ) (opens : OpensAs bytes opened) → AreBytes bytes → written_file opened ≡ opens.file
  pub again : (bytes : List ℕ) → AreBytes bytes → OpensAs bytes opened → (SaysPlaced bytes → ⊥) → file_bytes written_format (written_file opened) ≡ in_written (version_of bytes) bytes
