-- The settings of a world's file: all of the world's but the count of copies.
use Rattle.exh_page.specs.declared.config.Config.{Config}
use Rattle.exh_page.specs.declared.file_settings.FileSettings.{FileSettings}

abbrev pub file_settings : {K : Type 0} → Config K → FileSettings K
file_settings config = record { cap = config.cap; ward_bits = config.ward_bits; keyer = config.keyer }
