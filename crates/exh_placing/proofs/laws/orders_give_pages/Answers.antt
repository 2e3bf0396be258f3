use Rattle.exh_placing.proofs.WardFiles.{pages_given}
use Rattle.exh_placing.proofs.laws.orders_give_pages.Goals as goal

pub returns : goal.returns
returns c = pages_given
