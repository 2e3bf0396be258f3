use Rattle.std.proofs.Common.{[], ◌∷◌, ◌++◌, codes, decimal, ap, ◌∙◌}
use Rattle.exh_report.proofs.Behind.{line}
use Rattle.exh_report.proofs.file_lines.push_ward.Goals as goal

pub returns : goal.returns
returns c =
    line c.push_text-3.result c.args.out.now.items c.push_text.new.out.items c.push_number.new.out.items c.push_text-2.new.out.items c.push_number-2.new.out.items c.push_text-3.new.out.items
    (codes "ward ") (decimal c.args.ward) (codes " pages ") (decimal c.args.count) (10 ∷ [])
    c.in_ok-push_text.ensures.ok (c.in_ok-push_number.ensures.ok ∙ ap (λ n. c.push_text.new.out.items ++ decimal n) c.from.ensures) c.in_ok-push_text-2.ensures.ok c.in_ok-push_number-2.ensures.ok c.push_text-3.ensures.ok
