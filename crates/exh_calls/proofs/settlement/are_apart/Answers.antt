use Rattle.std.proofs.Common.{refl, sym, ◌∙◌, arith}
use Rattle.std.proofs.lemmas.Bool.{false≢true}
use Rattle.exh_calls.proofs.Callers.{all_apart, one_more, told_twice}
use Rattle.exh_calls.proofs.settlement.are_apart.Goals as goal

pub returns-then-is_of_one : goal.returns-then-is_of_one
returns-then-is_of_one c = (
  λ is. absurd (false≢true is),
  λ apart. absurd (told_twice c.args.diaries.now c.loop-at.at c.index-diaries-at.result (omega arith) c.index-diaries-at.is (rw c.client.ensures.client at (c.is_of_one.ensures.0 c.if-is_of_one.true)) apart),
)

pub loop-at-preserved : goal.loop-at-preserved
loop-at-preserved c = one_more c.args.diaries.now c.loop-at.at c.index-diaries-at.result (omega arith) c.index-diaries-at.is c.loop-at.invariant (λ told. false≢true (sym c.if-is_of_one.false ∙ c.is_of_one.ensures.1 (rw c.client.ensures.client told)))

pub returns : goal.returns
returns c = (λ _. all_apart c.args.diaries.now c.loop-at.at (omega arith) c.loop-at.invariant, λ _. refl)
