-- Constants of the code, as definitions, so that a crate above can pass them on.
use Rattle.std.specs.Prelude.{ℕ}
use Rattle.exh_file.specs.declared.ward_change.TheConstants.{CHANGER as changer}

abbrev pub CHANGER : ℕ
CHANGER = changer
