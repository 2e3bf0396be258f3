use Rattle.std.proofs.Common.{ℕ, ◌-◌, List, sym, ap, ◌∙◌}
use Rattle.std.specs.List.{copy_within}
use Rattle.exh_page.proofs.PackedEdits.{paste_same}
use Rattle.exh_page.proofs.packed_records.move_tail.Goals as goal

pub returns-then-to-start-clause-items : goal.returns-then-to-start-clause-items
returns-then-to-start-clause-items c =
    let bytes : List ℕ = c.args.texts.now.items in
    sym (ap (copy_within bytes c.args.start c.args.end) c.if-to-start.true ∙ paste_same bytes c.args.start (c.args.end - c.args.start))
