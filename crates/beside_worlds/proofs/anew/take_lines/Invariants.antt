use Rattle.exh_keyer.specs.Pseudokey.{any_pseudokey}
use Rattle.exh_world.specs.Sound.{IsSoundWorld}
use Rattle.beside_worlds.specs.Anew.{HasSettings}
use Rattle.beside_worlds.proofs.anew.take_lines.Given as goal

-- each line keeps the world's settings
abbrev pub invariant-lines : goal.invariant-lines
invariant-lines l = record {
  sound : IsSoundWorld any_pseudokey l.script.world;
  settings : HasSettings l.script.world;
}
