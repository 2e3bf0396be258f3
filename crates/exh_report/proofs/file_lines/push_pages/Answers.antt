use Rattle.std.proofs.Common.{codes, decimal}
use Rattle.exh_report.proofs.Behind.{five}
use Rattle.exh_report.proofs.file_lines.push_pages.Goals as goal

pub returns : goal.returns
returns c =
    five c.push_number-3.result c.args.out.now.items c.push_number.new.out.items c.push_text.new.out.items c.push_number-2.new.out.items c.push_text-2.new.out.items c.push_number-3.new.out.items
    (decimal c.args.counts.now.pages) (codes " live ") (decimal c.args.counts.now.live) (codes " forward ") (decimal c.args.counts.now.forward)
    c.in_ok-push_number.ensures.ok c.in_ok-push_text.ensures.ok c.in_ok-push_number-2.ensures.ok c.in_ok-push_text-2.ensures.ok c.push_number-3.ensures.ok
