use Rattle.exh_world.proofs.StepSound.{step_sound}
use Rattle.exh_world.proofs.laws.steps_keep_worlds_sound.Goals as goal

pub returns : goal.returns
returns g c old event result new sound step wards = step_sound g.K.Keyer.pseudokey_of old sound (record { links = c.right_links_lead_on.ensures; targets = c.targets_lead_on.ensures; moves = c.moves_come_nearer.ensures; steps = c.steps_add_changes.ensures }) event result new step wards
