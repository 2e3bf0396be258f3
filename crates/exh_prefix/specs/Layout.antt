-- The versions that the code knows, as those that definitions speak of.
use Rattle.exh_prefix.specs.declared.version.Version.{Version as KnownVersion}
use Rattle.exh_prefix.specs.declared.version.Version.TheVariants.{First, Second}
use Rattle.exh_prefix.specs.declared.version.TheConstants.{WRITTEN}
use Rattle.exh_prefix.specs.Version.{Version, first_version, second_version}

-- how prefixes stand in the images of a known version
abbrev pub layout : KnownVersion → Version
layout First = first_version
layout Second = second_version

-- the version of the images that are written
abbrev pub written_version : Version
written_version = layout WRITTEN
