-- How many pages of each kind, and how many records, a list of pages has.
use Rattle.std.specs.Prelude.{ℕ, Bool, true, false, not, List, length, count_by, sum_by}
use Rattle.exh_page.specs.Page.{records_of}
use Rattle.exh_page.specs.declared.page.Page.{Page}
use Rattle.exh_page.specs.declared.page.Page.TheVariants.{Live, Forward}

abbrev pub is_live : Page → Bool
is_live (Live prefix right records) = true
is_live (Forward low target) = false

abbrev pub live_count : List Page → ℕ
live_count pages = count_by is_live pages

abbrev pub forward_count : List Page → ℕ
forward_count pages = count_by (λ page. not (is_live page)) pages

abbrev pub record_count : List Page → ℕ
record_count pages = sum_by (λ page. length (records_of page)) pages
