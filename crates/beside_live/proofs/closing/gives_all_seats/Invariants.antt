use Rattle.exh_keyer.specs.Pseudokey.{plain_pseudokey}
use Rattle.beside_live.proofs.closing.gives_all_seats.Given as goal

abbrev pub ghosts-gives_all_seats_of-F-LedgerNames : goal.ghosts-gives_all_seats_of-F-LedgerNames
ghosts-gives_all_seats_of-F-LedgerNames a = record { answers = a.answers.name; entries = a.entries.name }

abbrev pub ghosts-gives_all_seats_of-F-Identity : goal.ghosts-gives_all_seats_of-F-Identity
ghosts-gives_all_seats_of-F-Identity a = record { hashing = plain_pseudokey }
