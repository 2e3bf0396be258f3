use Rattle.exh_keyer.specs.Pseudokey.{plain_pseudokey}
use Rattle.beside_live.proofs.closing.answered.Given as goal

abbrev pub ghosts-answered_by-F-LedgerNames : goal.ghosts-answered_by-F-LedgerNames
ghosts-answered_by-F-LedgerNames g a = record { answers = a.answers.name; entries = a.entries.name }

abbrev pub ghosts-answered_by-F-Identity : goal.ghosts-answered_by-F-Identity
ghosts-answered_by-F-Identity g a = record { hashing = plain_pseudokey }
