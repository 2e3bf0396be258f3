use Rattle.std.proofs.lemmas.Result.{on_ok_weaker}
use Rattle.exh_salvage.proofs.Steps.{next_at, not_read}
use Rattle.exh_salvage.proofs.salvaging.salvage_next.Goals as goal

pub returns-in-Ok-clause-next : goal.returns-in-Ok-clause-next
returns-in-Ok-clause-next g c =
    on_ok_weaker c.keep.result (λ saved. next_at (g.B.ReadBlocks.failed c.read.new.self) (g.B.ReadBlocks.known c.args.blocks.now) c.read.new.block c.args.place c.args.salvage.now c.keep.new.salvage c.in-Ok.ensures.block saved) c.keep.ensures.saved

pub returns-in-Err-clause-next : goal.returns-in-Err-clause-next
returns-in-Err-clause-next g c =
    not_read (g.B.ReadBlocks.failed c.read.new.self) (g.B.ReadBlocks.known c.args.blocks.now) c.args.place c.args.salvage.now c.note_unread.new.self c.in-Err.ensures.failed c.note_unread.ensures
