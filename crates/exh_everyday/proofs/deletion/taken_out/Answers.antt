use Rattle.exh_everyday.proofs.Founds.{found_of}
use Rattle.exh_everyday.proofs.deletion.taken_out.Goals as goal

pub returns : goal.returns
returns c =
    let taken = c.in_ok-take_out.ensures.taken in
    (taken.asked, found_of c.args.keys.now c.new-found.result c.take_out.new.found taken.asked c.new-found.ensures.pairs c.new-found.ensures.absent taken.added)
