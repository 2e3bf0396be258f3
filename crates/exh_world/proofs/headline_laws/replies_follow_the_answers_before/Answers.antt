use Rattle.exh_world.proofs.RunWords.{replies_follow}
use Rattle.exh_world.proofs.headline_laws.replies_follow_the_answers_before.Goals as goal

pub returns : goal.returns
returns g c = replies_follow g.K.Keyer.pseudokey_of
