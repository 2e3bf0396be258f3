use Rattle.exh_everyday.proofs.Founds.{of_file_one}
use Rattle.exh_everyday.proofs.key_values.find_all.Goals as goal

pub loop-key-preserved : goal.loop-key-preserved
loop-key-preserved g c =
    of_file_one (g.F.OpenFile.known c.args.file.now) c.args.keys.now c.loop-key.key-index c.key-item.result c.args.found.now c.loop-key.found c.find_one.new.found
    c.loop-key-test.true c.key-item.is c.loop-key.invariant c.in_ok-find_one.ensures.found
