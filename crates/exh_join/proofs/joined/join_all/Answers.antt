use Rattle.std.proofs.Common.{arith}
use Rattle.exh_join.proofs.JoinedAll.{least_of_first, least_of_next}
use Rattle.exh_join.proofs.joined.join_all.Goals as goal

pub loop-value-init : goal.loop-value-init
loop-value-init g c = record {
  bound = omega arith;
  least = least_of_first g.met.J.Join.laws c.args.values.now _ c.in-Some.first.now _ c.in-Some.ensures.cases.0 c.in_ok-joined.ensures;
}

pub loop-value-preserved : goal.loop-value-preserved
loop-value-preserved g c = record {
  bound = omega (arith, c.loop-value-test.true);
  least = least_of_next g.met.J.Join.laws c.args.values.now _ c.in-Some.first.now _ _ _ c.loop-value.value-index c.in-Some.ensures.cases.0 c.loop-value-test.true c.value-item.is c.in_ok-join_in.ensures.ok c.loop-value.invariant.least;
}
