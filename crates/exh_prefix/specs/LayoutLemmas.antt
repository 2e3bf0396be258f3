-- What holds of each version that the code knows.
use Rattle.std.proofs.Common.{◌≤◌, ℕ, arith}
use Rattle.exh_prefix.specs.declared.prefix.TheConstants.{LIMIT}
use Rattle.exh_prefix.specs.declared.version.Version.{Version as KnownVersion}
use Rattle.exh_prefix.specs.declared.version.Version.TheVariants.{First, Second}
use Rattle.exh_prefix.specs.Version.{Version, Fits}
use Rattle.exh_prefix.specs.Layout.{layout}

-- an entry's image has room for its prefixes,
pub layout_fits : (version : KnownVersion) → Fits 4 (layout version)
layout_fits First = record { limit = omega arith; bytes = omega arith }
layout_fits Second = record { limit = omega arith; bytes = omega arith }

-- and so has what has more room
pub fits_wider : (room : ℕ) (version : Version) → 4 ≤ room → Fits 4 version → Fits room version
fits_wider room version wider fits = record { limit = fits.limit; bytes = omega (arith, fits.bytes, wider) }

-- no prefix of it is longer than any may be
pub layout_short : (version : KnownVersion) → (layout version).limit ≤ LIMIT
layout_short First = omega arith
layout_short Second = omega arith
