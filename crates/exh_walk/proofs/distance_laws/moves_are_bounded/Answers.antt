use Rattle.exh_walk.proofs.RunDistances.{gone}
use Rattle.exh_walk.proofs.distance_laws.moves_are_bounded.Goals as goal

pub returns : goal.returns
returns g c start moments end pseudokey from to moves distance legal run small covered below goes is =
    gone g.K.Keyer.pseudokey_of c.moves_come_nearer.ensures c.right_links_lead_on.ensures g.met.K.Keyer.pseudokey_fits c.splits_keep_legal.ensures c.merges_keep_legal.ensures c.answers_keep_legal.ensures c.histories_go_on.ensures
    start moments end pseudokey from to moves distance (legal, small, covered) run below goes is
