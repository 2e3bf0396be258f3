use Rattle.std.proofs.Common.{add-one, arith}
use Rattle.exh_page.specs.PrefixListLemmas.{first_left}
use Rattle.exh_calls.proofs.packed_pairs.PairsIterator.next.Goals as goal

pub returns-clause-steps : goal.returns-clause-steps
returns-clause-steps c =
    let inside = c.self.inside in
    rw (← c.self.view_is, add-one inside.next) (first_left inside.pairs.now inside.next c.get-pair.result (omega arith) c.get-pair.ensures)
