-- The settings that a storm may have.
use Rattle.std.specs.Prelude.{◌≤◌}
use Rattle.exh_page.specs.declared.page.TheConstants.{CAP_LIMIT}
use Rattle.exh_prefix.specs.declared.prefix.TheConstants.{WARD_BITS_LIMIT}
use Rattle.exh_page.specs.declared.storm_config.StormConfig.{StormConfig}
use Rattle.exh_page.specs.declared.storm_config.TheConstants.{CALLERS_LIMIT, CALLS_LIMIT, COPIES_LIMIT}

-- one caller at least, each of whom makes one call at least, one record a page and one copy of the directory; and no more of any than the limits
pub record IsStormConfig (config : StormConfig) : Type 0 where
  pub some_caller : 1 ≤ config.callers
  pub callers : config.callers ≤ CALLERS_LIMIT
  pub some_call : 1 ≤ config.calls
  pub calls : config.calls ≤ CALLS_LIMIT
  pub some_record : 1 ≤ config.cap
  pub cap : config.cap ≤ CAP_LIMIT
  pub ward_bits : config.ward_bits ≤ WARD_BITS_LIMIT
  pub some_copy : 1 ≤ config.copies
  pub copies : config.copies ≤ COPIES_LIMIT
