use Rattle.std.proofs.lemmas.Grind.{common_steps}
use Rattle.std.proofs.Common.{None, sym, arith}
use Rattle.exh_format.specs.ReadingLemmas.{last_there}
use Rattle.exh_format.proofs.read_table.last_prefix.Goals as goal

pub returns : goal.returns
returns c = sym (last_there None c.args.entries.now c.index-entries-entries.result (grind (arith, common_steps)))
