-- What is counted of a page.
use Rattle.std.specs.Prelude.{ℕ, ◌+◌, true, false, List, [], length, sum_by}
use Rattle.exh_page.specs.declared.page.Page.{Page}
use Rattle.exh_page.specs.declared.page.Page.TheVariants.{Live, Forward}
use Rattle.exh_page.specs.declared.record.Record.{Record}
use Rattle.exh_compact.specs.declared.page_shape.PageShape.{PageShape}

-- how many bytes of a block records take: the key and the value of each, and a byte for the length of either
abbrev pub bytes_of : List Record → ℕ
bytes_of records = sum_by (λ r. length r.key + length r.value + 2) records

abbrev pub shape_of : Page → PageShape
shape_of (Live prefix right records) = record { is_live = true; prefix = prefix; records = length records; bytes = bytes_of records }
shape_of (Forward low target) = record { is_live = false; prefix = []; records = 0; bytes = 0 }
