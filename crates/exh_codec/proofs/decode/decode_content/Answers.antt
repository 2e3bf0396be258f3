use Rattle.exh_page.specs.Layout.{layout}
use Rattle.exh_codec.proofs.LowBytes.{known_fits}
use Rattle.exh_codec.proofs.FirstFault.{only_given, fault_given}
use Rattle.exh_codec.proofs.decode.decode_content.Goals as goal

pub returns-clause-only : goal.returns-clause-only
returns-clause-only g c page laid = only_given (layout c.args.version) (known_fits c.args.version) (g.K.Keyer.pseudokey_of c.args.keyer.now) c.args.block.now c.read_content.result c.read_content.ensures page laid

pub returns-clause-fault : goal.returns-clause-fault
returns-clause-fault g c = fault_given (layout c.args.version) (known_fits c.args.version) (g.K.Keyer.pseudokey_of c.args.keyer.now) c.args.block.now c.read_content.result c.read_content.ensures
