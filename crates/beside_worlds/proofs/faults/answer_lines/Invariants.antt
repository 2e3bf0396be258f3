use Rattle.exh_keyer.specs.Pseudokey.{any_pseudokey}
use Rattle.exh_world.specs.Sound.{IsSoundWorld}
use Rattle.beside_worlds.proofs.faults.answer_lines.Given as goal

-- the world is sound
abbrev pub invariant-lines : goal.invariant-lines
invariant-lines l = IsSoundWorld any_pseudokey l.script.world
