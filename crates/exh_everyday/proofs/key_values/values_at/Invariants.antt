use Rattle.exh_everyday.proofs.key_values.values_at.Given as goal

abbrev pub ghosts-values_of : goal.ghosts-values_of
ghosts-values_of a = record { all_keys = a.keys.now }
