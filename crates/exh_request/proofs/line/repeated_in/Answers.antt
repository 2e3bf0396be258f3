use Rattle.std.proofs.Common.{◌∙◌, map, sym}
use Rattle.exh_request.specs.Line.{used_option}
use Rattle.exh_request.proofs.Repeats.{repeated_step}
use Rattle.exh_request.proofs.line.repeated_in.Goals as goal

pub loop-one-preserved : goal.loop-one-preserved
loop-one-preserved c =
    c.loop-one.invariant
    ∙ repeated_step (map used_option c.args.uses.now) c.args.uses.now c.loop-one.one-index _ c.loop-one-test.true (sym c.is_repeated.ensures ∙ c.if-is_repeated.false)
