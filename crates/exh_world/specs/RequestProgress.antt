-- How many moves a request may make, and what its hop comes to.
use Rattle.std.specs.Prelude.{ℕ, ◌+◌, ◌-◌, length}
use Rattle.exh_ward.specs.declared.hop.Hop.{Hop}
use Rattle.exh_walk.specs.EventProgress.{progress_with, Progress}
use Rattle.exh_world.specs.World.{WorldState, changes_in}
use Rattle.exh_world.specs.declared.request.Request.{Request}

-- as many moves a request may make: its distance when it was begun, and the changes in its ward since
abbrev pub bound_in : {K : Type 0} → WorldState K → Request → ℕ
bound_in world request = request.distance + (length (changes_in world request.ward) - request.changes)

abbrev pub progress_of : {K : Type 0} → WorldState K → Request → Hop → Progress
progress_of world request hop = progress_with hop request.moves (bound_in world request)
