use Rattle.std.specs.FinMap as map
use Rattle.beside_live.proofs.live_stories.play_story.Given as goal

-- the copy of a new file that is cut by so many bits
abbrev pub ghosts-with_copy : goal.ghosts-with_copy
ghosts-with_copy g a = record { table = map.empty; ward_bits = a.ward_bits }
