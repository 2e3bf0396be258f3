use Rattle.std.proofs.Common.{ap, refl, ◌∙◌}
use Rattle.exh_table.specs.TableOrder.{table_join}
use Rattle.exh_copy.specs.AdditionLemmas.{join_empty}
use Rattle.exh_copy.proofs.copy.published_of.Goals as goal

pub returns : goal.returns
returns c = record {
  table_is = c.in_ok-join_in.ensures.ok ∙ ap (λ t. table_join t c.args.table.now) c.in_ok-directory.ensures.table ∙ join_empty c.args.table.now;
  ward_bits_are = c.in_ok-join_in.ensures.array.bits ∙ c.in_ok-directory.ensures.array.bits;
  counted = refl;
}
