-- Constants of the code, as definitions, so that a crate above can pass them on.
use Rattle.std.specs.Prelude.{ℕ}
use Rattle.exh_prefix.specs.declared.prefix.TheConstants.{LIMIT as limit, WARD_BITS_LIMIT as ward_bits_limit}

abbrev pub LIMIT : ℕ
LIMIT = limit

abbrev pub WARD_BITS_LIMIT : ℕ
WARD_BITS_LIMIT = ward_bits_limit
