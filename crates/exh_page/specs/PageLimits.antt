-- Constants of the code, as definitions, so that a crate above can pass them on.
use Rattle.std.specs.Prelude.{ℕ}
use Rattle.exh_page.specs.declared.page.TheConstants.{CAP_LIMIT as cap_limit}

abbrev pub CAP_LIMIT : ℕ
CAP_LIMIT = cap_limit
