use Rattle.std.proofs.Common.{◌+◌, ◌-◌, length, arith}
use Rattle.exh_frames.proofs.Laid.{laid_run}
use Rattle.exh_frames.proofs.halves.lay_run.Goals as goal

pub returns : goal.returns
returns c = laid_run c.args.head.now c.args.run.now c.put_head.new.block _ (16 + length c.args.run.now - 16) c.put_head.ensures c.copy_from_slice.ensures.after (omega (arith, c.requires.room)) (omega arith)
