use Rattle.std.proofs.Common.{length, ap, arith}
use Rattle.exh_versions.proofs.Legal.{some_bits, some_few}
use Rattle.exh_versions.proofs.legal_reading.are_fitting.Goals as goal

pub cells_fit-requires-clause-bits : goal.cells_fit-requires-clause-bits
cells_fit-requires-clause-bits g c = some_bits g.W.PageList.pages c.args.parts.now c.requires

pub cells_fit-requires-clause-few : goal.cells_fit-requires-clause-few
cells_fit-requires-clause-few g c = omega (arith, ap length c.deref.ensures.value, some_few g.W.PageList.pages c.args.parts.now c.requires)
