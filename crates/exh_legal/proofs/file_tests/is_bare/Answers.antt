use Rattle.std.specs.Map.Iter.{deref_pair}
use Rattle.exh_legal.proofs.OwnPrefix.{tells_bare}
use Rattle.exh_legal.proofs.file_tests.is_bare.Goals as goal

pub returns : goal.returns
returns c = tells_bare deref_pair c.next.result c.entries.result c.next.new.self c.next.ensures.steps c.args.table.now c.entries.ensures c.is_none.result c.is_none.ensures
