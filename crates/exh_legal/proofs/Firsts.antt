-- The first reason of a ward, from its tests in their order.
use Rattle.std.proofs.Common.{◌<◌, arith}
use Rattle.exh_legal.specs.declared.reason.Reason.{Reason}
use Rattle.exh_legal.specs.declared.reason.Reason.TheVariants.{Cap, LowBounds, Leaves, Links, Forwards, Table}
use Rattle.exh_legal.specs.Reasons.{rank_of}

module _ (P : Reason → Type 0) where
  pub before_cap : (reason : Reason) → rank_of reason < 1 → P reason
  before_cap Cap less = absurd (omega (arith, less))
  before_cap LowBounds less = absurd (omega (arith, less))
  before_cap Leaves less = absurd (omega (arith, less))
  before_cap Links less = absurd (omega (arith, less))
  before_cap Forwards less = absurd (omega (arith, less))
  before_cap Table less = absurd (omega (arith, less))

  pub before_lows : P Cap → (reason : Reason) → rank_of reason < 2 → P reason
  before_lows cap Cap less = cap
  before_lows cap LowBounds less = absurd (omega (arith, less))
  before_lows cap Leaves less = absurd (omega (arith, less))
  before_lows cap Links less = absurd (omega (arith, less))
  before_lows cap Forwards less = absurd (omega (arith, less))
  before_lows cap Table less = absurd (omega (arith, less))

  pub before_leaves : P Cap → P LowBounds → (reason : Reason) → rank_of reason < 3 → P reason
  before_leaves cap lows Cap less = cap
  before_leaves cap lows LowBounds less = lows
  before_leaves cap lows Leaves less = absurd (omega (arith, less))
  before_leaves cap lows Links less = absurd (omega (arith, less))
  before_leaves cap lows Forwards less = absurd (omega (arith, less))
  before_leaves cap lows Table less = absurd (omega (arith, less))

  pub before_links : P Cap → P LowBounds → P Leaves → (reason : Reason) → rank_of reason < 4 → P reason
  before_links cap lows leaves Cap less = cap
  before_links cap lows leaves LowBounds less = lows
  before_links cap lows leaves Leaves less = leaves
  before_links cap lows leaves Links less = absurd (omega (arith, less))
  before_links cap lows leaves Forwards less = absurd (omega (arith, less))
  before_links cap lows leaves Table less = absurd (omega (arith, less))

  pub before_targets : P Cap → P LowBounds → P Leaves → P Links → (reason : Reason) → rank_of reason < 5 → P reason
  before_targets cap lows leaves links Cap less = cap
  before_targets cap lows leaves links LowBounds less = lows
  before_targets cap lows leaves links Leaves less = leaves
  before_targets cap lows leaves links Links less = links
  before_targets cap lows leaves links Forwards less = absurd (omega (arith, less))
  before_targets cap lows leaves links Table less = absurd (omega (arith, less))

  pub before_table : P Cap → P LowBounds → P Leaves → P Links → P Forwards → (reason : Reason) → rank_of reason < 6 → P reason
  before_table cap lows leaves links targets Cap less = cap
  before_table cap lows leaves links targets LowBounds less = lows
  before_table cap lows leaves links targets Leaves less = leaves
  before_table cap lows leaves links targets Links less = links
  before_table cap lows leaves links targets Forwards less = targets
  before_table cap lows leaves links targets Table less = absurd (omega (arith, less))

  pub each_reason : P Cap → P LowBounds → P Leaves → P Links → P Forwards → P Table → (reason : Reason) → P reason
  each_reason cap lows leaves links targets fits Cap = cap
  each_reason cap lows leaves links targets fits LowBounds = lows
  each_reason cap lows leaves links targets fits Leaves = leaves
  each_reason cap lows leaves links targets fits Links = links
  each_reason cap lows leaves links targets fits Forwards = targets
  each_reason cap lows leaves links targets fits Table = fits
