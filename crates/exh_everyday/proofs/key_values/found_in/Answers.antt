use Rattle.exh_everyday.proofs.Founds.{found_in}
use Rattle.exh_everyday.proofs.key_values.found_in.Goals as goal

pub returns-clause-found : goal.returns-clause-found
returns-clause-found g c =
    found_in (g.F.OpenFile.known c.args.file.now) c.args.keys.now c.new-found.result c.find_all.new.found c.new-found.ensures.pairs c.new-found.ensures.absent c.in_ok-find_all.ensures.found
