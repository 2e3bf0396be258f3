use Rattle.std.proofs.Common.{[], ◌∷◌, codes, decimal}
use Rattle.exh_report.specs.Check.{pages_text, totals_text}
use Rattle.exh_report.proofs.Behind.{long_line}
use Rattle.exh_report.proofs.file_lines.push_legal.Goals as goal

pub returns : goal.returns
returns c =
    let counts = c.args.counts.now in
    long_line c.push_text-3.result c.args.out.now.items c.push_text.new.out.items c.push_number.new.out.items c.push_text-2.new.out.items c.push_pages.new.out.items c.push_totals.new.out.items c.push_text-3.new.out.items
    (codes "legal wards ") (decimal c.args.wards) (codes " pages ") (pages_text counts.pages counts.live counts.forward) (totals_text counts.records c.args.entries) (10 ∷ [])
    c.in_ok-push_text.ensures.ok c.in_ok-push_number.ensures.ok c.in_ok-push_text-2.ensures.ok c.in_ok-push_pages.ensures c.in_ok-push_totals.ensures c.push_text-3.ensures.ok
