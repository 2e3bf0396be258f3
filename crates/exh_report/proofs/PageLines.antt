-- The lines of a page, record by record.
use Rattle.std.proofs.Common.{◌≡◌, ℕ, Bool, List, ◌∷◌, ◌++◌, Option, length, map, append_assoc, refl, sym, ap, ◌∙◌}
use Rattle.exh_page.specs.declared.page.Page.{Page}
use Rattle.exh_page.specs.declared.page.Page.TheVariants.{Live}
use Rattle.exh_page.specs.declared.record.Record.{Record}
use Rattle.exh_text.specs.Contents.{live_page_words, on_line}
use Rattle.exh_report.specs.Dump.{page_lines, pair_words}
use Rattle.exh_report.specs.ReportLines.{lines_text}
use Rattle.exh_report.specs.PairsText.{record_words, records_lines}

-- behind the line of a live page stand those of its records
pub page_begun : (old new : List ℕ) (ward number count : ℕ) (page : Page) (prefix : List Bool) (right : Option ℕ) (records items : List Record)
    → page ≡ Live prefix right records → count ≡ length records → items ≡ records → new ≡ old ++ on_line (live_page_words ward number prefix right count)
    → new ++ lines_text (map pair_words items) ≡ old ++ lines_text (page_lines ward (number, page))
page_begun old new ward number count page prefix right records items is counted given pushed =
    rw (is, given, pushed, counted) (append_assoc old (on_line (live_page_words ward number prefix right (length records))) (lines_text (map pair_words records)))

-- those of the records alone
pub records_begun : (out : List ℕ) (page : Page) (prefix : List Bool) (right : Option ℕ) (records items : List Record) → page ≡ Live prefix right records → items ≡ records
    → out ++ lines_text (map record_words items) ≡ out ++ lines_text (records_lines page)
records_begun out page prefix right records items is given = rw (is, given) refl

-- behind the line of one record stand those of the others
pub next_line : (words : Record → List ℕ) (out new : List ℕ) (item : Record) (left : List Record) {items : List Record} {all : List ℕ} → items ≡ item ∷ left → new ≡ out ++ on_line (words item)
    → out ++ lines_text (map words items) ≡ all → new ++ lines_text (map words left) ≡ all
next_line words out new item left steps pushed was =
    ap (λ front. front ++ lines_text (map words left)) pushed ∙ append_assoc out (on_line (words item)) (lines_text (map words left)) ∙ ap (λ items. out ++ lines_text (map words items)) (sym steps) ∙ was
