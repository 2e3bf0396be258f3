use Rattle.std.proofs.Common.{◌≡◌, ◌≤◌}
use Rattle.exh_map.specs.Copy.{HasBlocks, Takes}
use Rattle.exh_map.proofs.blocks.copy_rest.Given as goal

-- the blocks so far
abbrev pub invariant-places : goal.invariant-places
invariant-places g l = record {
  some : 1 ≤ l.place;
  same : g.B.Blocks.known l.source ≡ g.B.Blocks.known l.fn.source;
  blocks : Takes (HasBlocks l.place) (g.B.Blocks.known l.fn.source) (g.T.Target.has l.fn.copy) (g.T.Target.has l.copy);
}
