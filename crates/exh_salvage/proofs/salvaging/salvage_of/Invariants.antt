use Rattle.std.proofs.Common.{◌≡◌, ◌≤◌}
use Rattle.exh_salvage.specs.Salvage.{IsSalvageOf}
use Rattle.exh_salvage.proofs.salvaging.salvage_of.Given as goal

-- the blocks before the place are gone through
abbrev pub invariant-loop-place : goal.invariant-loop-place
invariant-loop-place g l = record {
  live : l.salvage.live ≤ l.place;
  lost : l.salvage.lost ≤ l.place;
  unread : l.salvage.unread ≤ l.place;
  same : g.B.ReadBlocks.known l.blocks ≡ g.B.ReadBlocks.known l.fn.blocks;
  so_far : IsSalvageOf (g.B.ReadBlocks.failed l.blocks) (g.B.ReadBlocks.known l.fn.blocks) l.place l.salvage;
}
