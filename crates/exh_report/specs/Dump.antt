-- What `dump` tells of a legal file.
use Rattle.std.specs.Prelude.{ℕ, List, ◌∷◌, ◌++◌, length, map, flat_map, decimal, codes}
use Rattle.std.specs.List.{enumerate_from}
use Rattle.exh_keyer.specs.Pseudokey.{keyer_word}
use Rattle.exh_page.specs.Page.{records_of}
use Rattle.exh_page.specs.declared.page.Page.{Page}
use Rattle.exh_page.specs.declared.page.Page.TheVariants.{Live, Forward}
use Rattle.exh_page.specs.declared.record.Record.{Record}
use Rattle.exh_text.specs.Contents.{entry_words, forward_page_words, live_page_words}
use Rattle.exh_format.specs.declared.file_entry.FileEntry.{FileEntry}
use Rattle.exh_format.specs.declared.header.Header.{Header}
use Rattle.exh_format.specs.PageFile.{PageFile}
use Rattle.exh_report.specs.ReportLines.{Lines}
use Rattle.exh_report.specs.PairsText.{record_words}

-- ---- the settings

abbrev pub file_words : Header → List ℕ
file_words header = codes "file cap=" ++ (decimal header.settings.cap ++ (codes " wards=" ++ (decimal header.settings.ward_bits ++ (codes " keyer=" ++ keyer_word header.settings.keyer))))

-- ---- the pages

abbrev pub live_pages_told : ℕ → ℕ → Page → List ℕ
live_pages_told ward number (Live prefix right records) = live_page_words ward number prefix right (length records)
live_pages_told ward number (Forward low target) = forward_page_words ward number target

abbrev pub pair_words : Record → List ℕ
pair_words item = codes "pair " ++ record_words item

-- a page with its number, and its records in their order
abbrev pub page_lines : ℕ → ℕ × Page → Lines
page_lines ward page = live_pages_told ward page.0 page.1 ∷ map pair_words (records_of page.1)

abbrev pub ward_words : ℕ → ℕ → List ℕ
ward_words ward count = codes "ward " ++ (decimal ward ++ (codes " pages " ++ decimal count))

-- a ward with its number, and its pages in the order of theirs
abbrev pub ward_lines : ℕ × List Page → Lines
ward_lines ward = ward_words ward.0 (length ward.1) ∷ flat_map (page_lines ward.0) (enumerate_from 0 ward.1)

-- ---- the whole file

abbrev pub item_words : FileEntry → List ℕ
item_words item = entry_words (item.prefix, item.entry)

-- the settings, each ward, and the table in its order
abbrev pub dump_lines : PageFile → Lines
dump_lines file = file_words file.header ∷ (flat_map ward_lines (enumerate_from 0 file.wards) ++ map item_words file.entries)
