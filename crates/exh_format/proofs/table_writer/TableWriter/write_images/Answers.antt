use Rattle.std.proofs.Common.{subst, rules}
use Rattle.exh_stream.specs.Output.{Takes}
use Rattle.exh_format.proofs.table_writer.TableWriter.write_images.Goals as goal

pub returns-clause-ok : goal.returns-clause-ok
returns-clause-ok g c = subst (Takes g.W.Write.contents c.args.output.now c.push.new.self) c.to_block.ensures (search rules)
