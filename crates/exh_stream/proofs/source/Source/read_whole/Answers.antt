use Rattle.std.proofs.Common.{arith}
use Rattle.std.proofs.KnownBytes.{Consumes-trans}
use Rattle.exh_stream.proofs.Given.{LosesSome-after, LosesLonger-after}
use Rattle.exh_stream.proofs.source.Source.read_whole.Goals as goal

pub returns-in_err-count-clause-err : goal.returns-in_err-count-clause-err
returns-in_err-count-clause-err g c = LosesSome-after _ _ _ _ _ c.from_residual.result c.loop-asked.invariant.given c.in_err-count.ensures.err.1

pub returns-then-count-room-clause-too_long : goal.returns-then-count-room-clause-too_long
returns-then-count-room-clause-too_long g c = λ _.
    LosesLonger-after _ _ _ c.loop-asked.bytes.items c.fill.new.block c.in_ok-count.count _ c.loop-asked.invariant.given c.in_ok-count.ensures.ok c.in_ok-count.ensures.bound.0 (omega (arith, c.loop-asked.bytes.ok.0))

pub returns-then-count-room-clause-err : goal.returns-then-count-room-clause-err
returns-then-count-room-clause-err g c = (_, Consumes-trans _ _ _ _ _ c.loop-asked.invariant.given c.in_ok-count.ensures.ok)

pub returns-in_err-extend_from_slice-clause-err : goal.returns-in_err-extend_from_slice-clause-err
returns-in_err-extend_from_slice-clause-err g c = LosesSome-after _ _ _ _ _ c.from_residual-in_err-extend_from_slice.result c.loop-asked.invariant.given c.in_ok-count.ensures.ok
