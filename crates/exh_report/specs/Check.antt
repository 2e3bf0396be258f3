-- What `check` says of a legal file.
use Rattle.std.specs.Prelude.{ℕ, List, [], ◌∷◌, ◌++◌, length, decimal, codes}
use Rattle.exh_format.specs.PageFile.{PageFile, pages_of}
use Rattle.exh_report.specs.Counts.{forward_count, live_count, record_count}
use Rattle.exh_report.specs.ReportLines.{Lines}

-- how many pages there are, and of these how many live and how many forwarding ones
abbrev pub pages_text : ℕ → ℕ → ℕ → List ℕ
pages_text pages live forward = decimal pages ++ (codes " live " ++ (decimal live ++ (codes " forward " ++ decimal forward)))

abbrev pub totals_text : ℕ → ℕ → List ℕ
totals_text records entries = codes " records " ++ (decimal records ++ (codes " entries " ++ decimal entries))

-- its wards, and over all of them its pages, its records and its entries
abbrev pub legal_words : ℕ → ℕ → ℕ → ℕ → ℕ → ℕ → List ℕ
legal_words wards pages live forward records entries =
    codes "legal wards " ++ (decimal wards ++ (codes " pages " ++ (pages_text pages live forward ++ totals_text records entries)))

abbrev pub check_lines : PageFile → Lines
check_lines file =
    let pages = pages_of file.wards in
    legal_words (length file.wards) (length pages) (live_count pages) (forward_count pages) (record_count pages) (length file.entries) ∷ []
