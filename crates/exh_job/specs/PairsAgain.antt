-- What `load` makes of the text that `pairs` prints of a legal file.
use Rattle.std.specs.Prelude.{◌≡◌, ⊤, ◌≤◌, ℕ, List, codes, Some}
use Rattle.exh_keyer.specs.Pseudokey.{any_pseudokey}
use Rattle.exh_keyer.specs.declared.any_keyer.AnyKeyer.{AnyKeyer}
use Rattle.exh_page.specs.FileSettings.{AreInRange}
use Rattle.exh_page.specs.declared.file_settings.FileSettings.{FileSettings}
use Rattle.exh_legal.specs.Pages.{map_of}
use Rattle.exh_format.specs.PageFile.{PageFile, pages_of}
use Rattle.exh_format.specs.Reading.{AreBytes}
use Rattle.exh_report.specs.LegalBytes.{IsLegalBytes}
use Rattle.exh_text.specs.TextLines.{lines_of}
use Rattle.exh_report.specs.ReportLines.{lines_text}
use Rattle.exh_report.specs.PairsText.{pairs_lines, settings_over}
use Rattle.exh_report.specs.declared.other_settings.OtherSettings.{OtherSettings}
use Rattle.exh_load.specs.FileChange.{AreParts}
use Rattle.exh_load.specs.Load.{at_end, load_of_lines, new_file, number_line, record_count}
use Rattle.exh_load.specs.Loading.{Loading}
use Rattle.exh_job.specs.declared.file_run.Topic.{Topic}
use Rattle.exh_job.specs.declared.file_run.Topic.TheVariants.{Size, Content, Pairs}

-- Of a text: no line of it is refused and no pair finds its page full, and what comes of it has the settings, and the maps
-- of its wards are together the one that the file has.
pub record LoadsAgain (settings : FileSettings AnyKeyer) (file : PageFile) (text : List ℕ) : Type 0 where
  pub loading : Loading
  pub loads : load_of_lines at_end new_file (lines_of text) ≡ record { printed = number_line (codes "loaded ") (record_count loading); left = Some loading }
  pub cap : loading.cap ≡ settings.cap
  pub ward_bits : loading.ward_bits ≡ settings.ward_bits
  pub keyer : loading.keyer ≡ settings.keyer
  pub map : AreParts settings.ward_bits (any_pseudokey settings.keyer) (map_of (pages_of file.wards)) loading.maps

-- so it is of the text of a legal file, with its own keyer and a cap that is no smaller, whatever the wards are
abbrev pub PairsLoadAgain : OtherSettings → Type 0
PairsLoadAgain other =
    (file : PageFile) (bytes : List ℕ) → IsLegalBytes file bytes → AreBytes bytes → let settings = settings_over other file.header.settings in
    AreInRange settings → settings.keyer ≡ file.header.settings.keyer → file.header.settings.cap ≤ settings.cap → LoadsAgain settings file (lines_text (pairs_lines other file))

-- of what is told of a file the pairs alone
abbrev pub TellsAgain : Topic → Type 0
TellsAgain Size = ⊤
TellsAgain Content = ⊤
TellsAgain (Pairs other) = PairsLoadAgain other
