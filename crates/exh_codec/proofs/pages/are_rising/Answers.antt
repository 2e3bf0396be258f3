use Rattle.std.proofs.Common.{sym, ◌∙◌, arith}
use Rattle.std.proofs.lemmas.Bool.{false≢true}
use Rattle.exh_codec.proofs.Rising.{rising_more, neighbours_rise, less_from_test, not_less_from_test}
use Rattle.exh_codec.proofs.pages.are_rising.Goals as goal

pub returns-then-ne : goal.returns-then-ne
returns-then-ne c = (
  λ no. absurd (false≢true no),
  λ rising. absurd (not_less_from_test _ _ c.ne.ensures c.if-ne.true (c.cmp_places.ensures ∙ neighbours_rise c.args.records.now c.loop-i.i _ _ (omega arith) (omega arith) rising)),
)

pub loop-i-preserved : goal.loop-i-preserved
loop-i-preserved c =
    rising_more c.args.records.now c.loop-i.i _ _ (omega arith) (omega arith) c.loop-i.invariant (sym c.cmp_places.ensures ∙ less_from_test _ _ c.ne.ensures c.if-ne.false)
