use Rattle.std.proofs.Common.{ℕ, List, Option, ◌∙◌, subst}
use Rattle.exh_salvage.specs.Salvage.{IsNextSaved}
use Rattle.exh_salvage.proofs.Steps.{next_of}
use Rattle.exh_salvage.proofs.salvaging.salvage_of.Goals as goal

pub loop-place-preserved : goal.loop-place-preserved
loop-place-preserved g c =
    let was = c.loop-place.invariant in
    let done = c.in_ok-salvage_next.ensures in
    let next = subst (λ (known : Option (List ℕ)). IsNextSaved (g.B.ReadBlocks.failed c.salvage_next.new.blocks) known c.loop-place.place c.loop-place.salvage c.salvage_next.new.salvage) was.same done.next in
    record {
      live = done.live;
      lost = done.lost;
      unread = done.unread;
      same = done.same_bytes ∙ was.same;
      so_far = next_of (g.B.ReadBlocks.failed c.loop-place.blocks) (g.B.ReadBlocks.failed c.salvage_next.new.blocks) (g.B.ReadBlocks.known c.args.blocks.now) c.loop-place.place c.loop-place.salvage c.salvage_next.new.salvage c.salvage_next.ensures.still was.so_far next;
    }
