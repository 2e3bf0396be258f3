use Rattle.std.proofs.Common.{◌∙◌}
use Rattle.exh_report.specs.PairsText.{record_words}
use Rattle.exh_report.proofs.PageLines.{next_line, records_begun}
use Rattle.exh_report.proofs.file_lines.push_records.Goals as goal

pub loop-item-init : goal.loop-item-init
loop-item-init c =
    records_begun c.args.out.now.items c.args.page.now c.in-Live.prefix c.in-Live.right c.in-Live.records c.into_iter-item-iterator.result
    c.in-Live.is (c.into_iter-item-iterator.ensures.into_iter_gives ∙ c.iter-item-items.ensures.records)

pub loop-item-preserved : goal.loop-item-preserved
loop-item-preserved c =
    next_line record_words c.loop-item.out.items c.push_record.new.out.items c.in-Some.item c.next.new.self c.in-Some.ensures.steps c.in_ok-push_record-in-Live.ensures c.loop-item.invariant
