use Rattle.std.proofs.Common.{arith}
use Rattle.std.proofs.lemmas.Grind.{common_steps}
use Rattle.std.proofs.Output.{has_written_append, has_written_of_eq}
use Rattle.exh_prefix.proofs.Made.{digits_more}
use Rattle.exh_prefix.proofs.prefix.PrefixDisplay.fmt.Goals as goal
use Rattle.exh_prefix.proofs.prefix.PrefixDisplay.fmt.Goals.{then-bit, else-bit}

pub loop-place-preserved : goal.loop-place-preserved
loop-place-preserved g c plain =
    has_written_of_eq _ _ _ _ _ (digits_more c.args.self.now c.loop-place.place c.bit.result c.bit.ensures)
    (has_written_append _ _ _ _ _ _ (c.loop-place.invariant plain)
    (elim c.if-bit.branch [ then-bit w ↦ grind (arith, common_steps) | else-bit w ↦ grind (arith, common_steps) ]))
