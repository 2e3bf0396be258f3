use Rattle.std.proofs.Common.{[], ◌∷◌, codes}
use Rattle.exh_report.specs.PairsText.{record_words}
use Rattle.exh_report.proofs.Behind.{headed}
use Rattle.exh_report.proofs.file_lines.push_pair.Goals as goal

pub returns : goal.returns
returns c =
    headed c.push_record.result c.args.out.now.items c.push_text.new.out.items c.push_record.new.out.items (codes "pair ") (record_words c.args.item.now) (10 ∷ [])
    c.in_ok-push_text.ensures.ok c.push_record.ensures
