-- Constants of the code, as definitions, so that a crate above can pass them on.
use Rattle.std.specs.Prelude.{ℕ}
use Rattle.exh_system.specs.declared.lock_way.TheConstants.{WAIT as wait}

abbrev pub WAIT : ℕ
WAIT = wait
