use Rattle.std.proofs.Common.{sym, ap, ◌∙◌}
use Rattle.std.proofs.lemmas.Cmp.{tied_itself}
use Rattle.exh_notice.specs.Entry.{entry_cmp}
use Rattle.exh_notice.specs.EntryLemmas.{entry_cmp-total, entry_cmp-exact}
use Rattle.exh_notice.proofs.laws.order_is_total.Goals as goal

pub returns : goal.returns
returns c = (entry_cmp-total, λ one other. (entry_cmp-exact one other, λ same. ap (entry_cmp one) (sym same) ∙ tied_itself entry_cmp-total one))
