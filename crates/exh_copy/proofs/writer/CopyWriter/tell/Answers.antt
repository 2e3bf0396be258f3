use Rattle.exh_copy.proofs.Keeps.{admits, tells, learns}
use Rattle.exh_copy.proofs.writer.CopyWriter.tell.Goals as goal

pub reader-requires : goal.reader-requires
reader-requires g c = admits g.S.Start.table g.S.Start.ward_bits

pub tell-requires : goal.tell-requires
tell-requires g c = tells g.S.Start.table g.S.Start.ward_bits _ _

pub learn-requires-clause-rule : goal.learn-requires-clause-rule
learn-requires-clause-rule g c = learns g.S.Start.table g.S.Start.ward_bits _ _ _ _
