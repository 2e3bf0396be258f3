use Rattle.std.specs.FinMap as map
use Rattle.exh_keyer.specs.Pseudokey.{sha_pseudokey}
use Rattle.exh_live.proofs.run.storm_left.Given as goal

abbrev pub ghosts-storm_of-F-LedgerNames : goal.ghosts-storm_of-F-LedgerNames
ghosts-storm_of-F-LedgerNames g a = record { answers = a.answers.name; entries = a.entries.name }

abbrev pub ghosts-storm_of-F-Identity : goal.ghosts-storm_of-F-Identity
ghosts-storm_of-F-Identity g a = record { hashing = sha_pseudokey }

abbrev pub ghosts-storm_of-S-Start : goal.ghosts-storm_of-S-Start
ghosts-storm_of-S-Start g a = record { table = map.empty; ward_bits = a.config.now.ward_bits }
