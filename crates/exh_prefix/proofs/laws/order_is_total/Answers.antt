use Rattle.std.proofs.Common.{sym, ap, ◌∙◌}
use Rattle.exh_prefix.specs.PrefixLemmas.{prefix_cmp-total, prefix_cmp-exact}
use Rattle.exh_prefix.specs.Prefix.{prefix_cmp}
use Rattle.std.proofs.lemmas.Cmp.{tied_itself}
use Rattle.exh_prefix.proofs.laws.order_is_total.Goals as goal

pub returns : goal.returns
returns c = (prefix_cmp-total, λ one other. (prefix_cmp-exact one other, λ same. ap (prefix_cmp one) (sym same) ∙ tied_itself prefix_cmp-total one))
