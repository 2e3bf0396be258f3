use Rattle.std.proofs.Common.{rules}
use Rattle.left_right.specs.Sides.{view}
use Rattle.exh_copy.specs.Additions.{BeginsWith}
use Rattle.exh_copy.specs.AdditionLemmas.{longer_up}
use Rattle.exh_copy.proofs.reader.CopyReader.look.Goals as goal

pub returns-clause-forward : goal.returns-clause-forward
returns-clause-forward g c =
    let begins : BeginsWith (view c.replace_with.new.dest.place) c.args.self.now.additions = search rules in longer_up g.S.Start.table (view c.replace_with.new.dest.place) c.args.self.now.additions begins
