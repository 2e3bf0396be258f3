-- Constants of the code, as definitions, so that a crate above can pass them on.
use Rattle.std.specs.Prelude.{ℕ}
use Rattle.exh_cells.specs.declared.fit.TheConstants.{COUNTS_LEN as counts_len}

abbrev pub COUNTS_LEN : ℕ
COUNTS_LEN = counts_len
