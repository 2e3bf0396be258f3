use Rattle.std.proofs.Common.{length, refl, ap, ◌∙◌, arith}
use Rattle.std.proofs.lemmas.Option.{slice_get_read}
use Rattle.exh_edits.specs.declared.walk_block.WalkBlock.{WalkBlock}
use Rattle.exh_edits.proofs.search.index_of.Goals as goal

pub returns-then-read-index-clause-some : goal.returns-then-read-index-clause-some
returns-then-read-index-clause-some c = (
  c.index-read-index.result,
  slice_get_read c.args.read.now (length c.args.read.now) c.loop-index.index c.index-read-index.result refl (omega (arith, c.loop-index-test.true)) c.index-read-index.is,
  ap (λ (block : WalkBlock). block.group) c.index-read-index.is ∙ c.if-read-index.true,
)
