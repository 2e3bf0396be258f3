-- What `pairs` tells of a legal file: the text that `load` takes.
use Rattle.std.specs.Prelude.{ℕ, List, ◌∷◌, ◌++◌, map, flat_map, decimal, codes, unwrap_or}
use Rattle.exh_keyer.specs.Pseudokey.{keyer_word}
use Rattle.exh_keyer.specs.declared.any_keyer.AnyKeyer.{AnyKeyer}
use Rattle.exh_page.specs.declared.file_settings.FileSettings.{FileSettings}
use Rattle.exh_page.specs.Page.{records_of}
use Rattle.exh_page.specs.declared.page.Page.{Page}
use Rattle.exh_page.specs.declared.record.Record.{Record}
use Rattle.exh_text.specs.Printing.{printed}
use Rattle.exh_format.specs.PageFile.{PageFile}
use Rattle.exh_report.specs.ReportLines.{Lines}
use Rattle.exh_report.specs.declared.other_settings.OtherSettings.{OtherSettings}

-- ---- the first line

-- a file's settings, but for those that are given in their place
abbrev pub settings_over : OtherSettings → FileSettings AnyKeyer → FileSettings AnyKeyer
settings_over other own = record { cap = unwrap_or other.cap own.cap; ward_bits = unwrap_or other.ward_bits own.ward_bits; keyer = unwrap_or other.keyer own.keyer }

-- with one copy of the directory
abbrev pub first_words : FileSettings AnyKeyer → List ℕ
first_words settings = codes "file cap=" ++ (decimal settings.cap ++ (codes " wards=" ++ (decimal settings.ward_bits ++ (codes " copies=1 keyer=" ++ keyer_word settings.keyer))))

-- ---- the records

-- a key and its value
abbrev pub record_words : Record → List ℕ
record_words item = printed item.key ++ (codes " " ++ printed item.value)

-- the records of a page; a forwarding page has none
abbrev pub records_lines : Page → Lines
records_lines page = map record_words (records_of page)

-- ---- the whole text

-- the settings, and the records page by page, ward by ward
abbrev pub pairs_lines : OtherSettings → PageFile → Lines
pairs_lines other file = first_words (settings_over other file.header.settings) ∷ flat_map (flat_map records_lines) file.wards
