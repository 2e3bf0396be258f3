use Rattle.exh_keyer.specs.Pseudokey.{any_pseudokey}
use Rattle.example_threads.proofs.service.serve.Given as goal

abbrev pub ghosts-serve_as-F-LedgerNames : goal.ghosts-serve_as-F-LedgerNames
ghosts-serve_as-F-LedgerNames g a = record { answers = a.answers.name; entries = a.entries.name }

abbrev pub ghosts-serve_as-F-Identity : goal.ghosts-serve_as-F-Identity
ghosts-serve_as-F-Identity g a = record { hashing = any_pseudokey a.opened.keyer }

abbrev pub ghosts-serve_as-S-Start : goal.ghosts-serve_as-S-Start
ghosts-serve_as-S-Start g a = record { table = a.table.now; ward_bits = a.opened.ward_bits }
