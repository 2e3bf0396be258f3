use Rattle.std.proofs.Common.{◌∙◌}
use Rattle.exh_report.specs.Dump.{pair_words}
use Rattle.exh_report.proofs.PageLines.{next_line, page_begun}
use Rattle.exh_report.proofs.file_lines.push_page.Goals as goal

pub loop-item-init : goal.loop-item-init
loop-item-init c =
    page_begun c.args.out.now.items c.push_live_page.new.out.items c.args.ward c.args.number c.len.result c.args.page.now c.in-Live.prefix c.in-Live.right c.in-Live.records c.into_iter-item-iterator.result
    c.in-Live.is c.len.ensures (c.into_iter-item-iterator.ensures.into_iter_gives ∙ c.iter-item-items.ensures.records) c.in_ok-push_live_page-in-Live.ensures.ok

pub loop-item-preserved : goal.loop-item-preserved
loop-item-preserved c =
    next_line pair_words c.loop-item.out.items c.push_pair.new.out.items c.in-Some.item c.next.new.self c.in-Some.ensures.steps c.in_ok-push_pair-in-Live.ensures c.loop-item.invariant
