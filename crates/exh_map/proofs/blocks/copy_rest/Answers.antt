use Rattle.std.proofs.Common.{List, ℕ, Option, ◌∙◌, subst, arith}
use Rattle.exh_in_place.specs.KnownBlocks.{IsBlockAt}
use Rattle.exh_map.proofs.CopyLemmas.{all_taken, none_yet, one_more}
use Rattle.exh_map.proofs.blocks.copy_rest.Goals as goal

pub places-init : goal.places-init
places-init g c = record {
  some = omega arith;
  same = c.read_block.ensures.same;
  blocks = none_yet (g.B.Blocks.known c.args.source.now) (g.T.Target.has c.args.copy.now);
}

pub places-preserved : goal.places-preserved
places-preserved g c =
    let was = c.places.invariant in
    let known = g.B.Blocks.known c.args.source.now in
    let block = c.in_ok-block.block in
    let there = subst (λ (known : Option (List ℕ)). IsBlockAt known c.places.place block) was.same c.in_ok-block.ensures.block in
    record {
      some = omega (arith, was.some);
      same = c.read_block-in-places.ensures.same ∙ was.same;
      blocks = one_more known (g.T.Target.has c.args.copy.now) (g.T.Target.has c.places.copy) (g.T.Target.has c.put_block.new.copy) c.places.place block was.blocks there c.in_ok-put_block.ensures.put;
    }

pub returns-clause-rest : goal.returns-clause-rest
returns-clause-rest g c =
    let was = c.places.invariant in
    let count = c.in_ok-count.count in
    all_taken (g.B.Blocks.known c.args.source.now) (g.T.Target.has c.args.copy.now) (g.T.Target.has c.places.copy) (g.T.Target.has c.end_behind.new.copy) c.places.place count (omega (arith, c.places-test.false)) c.in_ok-count.ensures.count was.blocks c.in_ok-end_behind.ensures.end
