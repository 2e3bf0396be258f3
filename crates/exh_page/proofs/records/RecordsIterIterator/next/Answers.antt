use Rattle.std.proofs.Common.{◌∷◌, Some, drop, sym, ap, ◌∙◌, add-one, arith}
use Rattle.exh_prefix.specs.PrefixListLemmas.{first_left}
use Rattle.exh_page.proofs.records.RecordsIterIterator.next.Goals as goal

pub returns-clause-steps : goal.returns-clause-steps
returns-clause-steps c =
    let inside = c.self.inside in
    sym c.self.view_is ∙ first_left inside.packed.now inside.next.index (Some c.record-item.result) (omega arith) (sym c.record-item.ensures)
    ∙ ap (λ n. c.record-item.result ∷ drop n inside.packed.now) (sym (c.after-self-inside.ensures.index ∙ add-one inside.next.index))
