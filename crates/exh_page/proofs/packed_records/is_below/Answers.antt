use Rattle.std.proofs.Common.{arith}
use Rattle.exh_page.proofs.Begun.{tells_past}
use Rattle.exh_page.proofs.packed_records.is_below.Goals as goal

pub returns-then-past : goal.returns-then-past
returns-then-past c =
    let tells = tells_past c.args.prefix c.args.pseudokey c.begins.result (omega (arith, c.requires)) c.ranges.pseudokey.fits (omega (arith, c.if-pseudokey-low.false, c.low.ensures)) c.begins.ensures in
    rw c.if-past.true tells
