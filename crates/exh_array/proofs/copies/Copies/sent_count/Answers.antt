use Rattle.std.proofs.Common.{length, sym, ap, ◌∙◌}
use Rattle.exh_array.specs.Copies.{CopiesState}
use Rattle.exh_array.proofs.Unpacked.{unpacked-length}
use Rattle.exh_array.proofs.copies.Copies.sent_count.Goals as goal

pub returns-clause-count : goal.returns-clause-count
returns-clause-count c = c.len.ensures.count ∙ sym (unpacked-length c.self.inside.start.table c.self.inside.sent) ∙ ap (λ (s : CopiesState). length s.sent) c.self.view_is
