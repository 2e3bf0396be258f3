use Rattle.exh_keyer.specs.Pseudokey.{plain_pseudokey}
use Rattle.beside_live.proofs.thread_stories.with_copy.Given as goal

abbrev pub ghosts-play-F-LedgerNames : goal.ghosts-play-F-LedgerNames
ghosts-play-F-LedgerNames g a = record { answers = a.answers.name; entries = a.entries.name }

abbrev pub ghosts-play-F-Identity : goal.ghosts-play-F-Identity
ghosts-play-F-Identity g a = record { hashing = plain_pseudokey }
