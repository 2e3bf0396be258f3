use Rattle.exh_walk.proofs.PagesStay.{places_kept}
use Rattle.exh_walk.proofs.laws.pages_stay.Goals as goal

pub returns : goal.returns
returns g c start moments end run = places_kept g.K.Keyer.pseudokey_of start moments end run
