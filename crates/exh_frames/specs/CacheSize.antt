-- How many decoded pages a cache may hold.
use Rattle.std.specs.Prelude.{ℕ, ◌≤◌}
use Rattle.exh_frames.specs.declared.cache_size.TheConstants.{CACHE_SIZE_LIMIT}

abbrev pub IsCacheSize : ℕ → Type 0
IsCacheSize size = (1 ≤ size) × (size ≤ CACHE_SIZE_LIMIT)
