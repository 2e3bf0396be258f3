use Rattle.std.proofs.Common.{◌≡◌, ◌++◌, map}
use Rattle.exh_report.specs.ReportLines.{lines_text}
use Rattle.exh_report.specs.PairsText.{record_words, records_lines}
use Rattle.exh_report.proofs.file_lines.push_records.Given as goal

-- with the lines of the records that are left, those of the page stand there
abbrev pub invariant-loop-item : goal.invariant-loop-item
invariant-loop-item l = l.out.items ++ lines_text (map record_words l.item-iterator) ≡ l.fn.out.items ++ lines_text (records_lines l.fn.page)
