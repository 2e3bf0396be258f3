use Rattle.exh_change.proofs.changing_all.change_all.Given as goal

abbrev pub ghosts-change_over : goal.ghosts-change_over
ghosts-change_over g a = record { known = g.B.Blocks.known a.blocks.now }
